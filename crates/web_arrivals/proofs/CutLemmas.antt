-- Two whole runs over the same bytes.
use Rattle.std.proofs.Common.{◌≡◌, ℕ, List, [], ◌∷◌, ◌++◌, Option, Some, sym, ap, ◌∙◌, subst}
use Rattle.base_devices.specs.Reported.{Adds, Gives}
use Rattle.base_devices.specs.declared.device.Tick.{Tick}
use Rattle.web_http.specs.Messages.{Messages}
use Rattle.web_http.proofs.MessageLemmas.{Messages_unique}
use Rattle.model_answers.specs.ShopView.{ShopView}
use Rattle.office_deliveries.specs.Shops.{Views}
use Rattle.web_connection.specs.Run.{AreAll, Devices, Finished, Item, Runs, cursor}
use Rattle.web_connection.proofs.LawLemmas.{all_answered}
use Rattle.web_arrivals.specs.Cuts.{RunsWhole}
use Rattle.web_arrivals.specs.HandlerView.{HandlerView, House, Meaning}
use Rattle.web_arrivals.specs.Streams.{Decides}
use Rattle.web_arrivals.proofs.StreamLemmas.{all-alike}

-- what stands behind the same
cancel : {X : Type 0} (front a b : List X) → front ++ a ≡ front ++ b → a ≡ b
cancel [] a b e = e
cancel (x ∷ front) a b e = cancel front a b (cc (e))

-- what was added
added : {X : Type 0} (front xs : List X) (old new : Option (List X)) → old ≡ Some front → Adds old xs new → new ≡ Some (front ++ xs)
added {X} front xs old new is adds = subst (λ (o : Option (List X)). Adds o xs new) is adds

-- two devices that had the same and have the same now were given the same
added_same : {X : Type 0} (front xs ys : List X) (new newer : Option (List X)) → new ≡ Some (front ++ xs) → newer ≡ Some (front ++ ys) → new ≡ newer → xs ≡ ys
added_same front xs ys new newer is are same = cancel front xs ys (cc (is, are, same))

module _ {T : Type 0} (tables : Meaning T) (house : House) (v : ShopView) (bytes : List ℕ) (ticks : List Tick) (written : List ℕ) (old new : Devices (HandlerView T))
    (p : RunsWhole tables house v bytes ticks written old new) where
  -- the run itself
  abbrev pub ended : Finished (Decides tables) (AreAll p.run.bytes new.left) (cursor p.run.bytes old.reported old.handler old.taken) (cursor [] new.reported new.handler new.taken)
  ended = p.run.streams

  -- its messages are those of the bytes
  pub all_messages : Messages bytes ended.items
  all_messages = all_answered bytes p.run.bytes new.left ended.items (subst (λ (left : Option (List ℕ)). Gives left p.run.bytes new.left) p.to_come p.run.given) ended.all

  pub all_ticks : new.reported ≡ Some (ticks ++ ended.ticks)
  all_ticks = added ticks ended.ticks old.reported new.reported p.ticked ended.reported

  pub all_written : new.taken ≡ Some (written ++ ended.written)
  all_written = added written ended.written old.taken new.taken p.wrote ended.taken

pub cuts-alike : {T U : Type 0} (tables : Meaning T) (others : Meaning U) (house : House) (v : ShopView) (bytes : List ℕ) (ticks : List Tick) (written : List ℕ)
    (old new : Devices (HandlerView T)) (other newer : Devices (HandlerView U))
    → RunsWhole tables house v bytes ticks written old new → RunsWhole others house v bytes ticks written other newer → new.reported ≡ newer.reported
    → (new.taken ≡ newer.taken) × ((w : ShopView) × Views tables.holds new.handler.tables new.handler.state w × Views others.holds newer.handler.tables newer.handler.state w)
cuts-alike tables others house v bytes ticks written old new other newer p q same =
    let f = ended tables house v bytes ticks written old new p in
    let g = ended others house v bytes ticks written other newer q in
    let items : g.items ≡ f.items =
    Messages_unique bytes g.items f.items (all_messages others house v bytes ticks written other newer q) (all_messages tables house v bytes ticks written old new p) in
    let ticked : g.ticks ≡ f.ticks =
    added_same ticks g.ticks f.ticks newer.reported new.reported (all_ticks others house v bytes ticks written other newer q) (all_ticks tables house v bytes ticks written old new p) (sym same) in
    let runs : Runs (Decides others) other.handler f.ticks f.items g.written newer.handler =
    subst (λ (is : List Item). Runs (Decides others) other.handler f.ticks is g.written newer.handler) items (subst (λ (ts : List Tick). Runs (Decides others) other.handler ts g.items g.written newer.handler) ticked g.runs) in
    let both = all-alike tables others house v old.handler new.handler other.handler newer.handler f.ticks f.items f.written g.written f.runs runs p.sure q.sure p.of q.of p.views q.views in (
      all_written tables house v bytes ticks written old new p
          ∙ ap (λ (w : List ℕ). let o : Option (List ℕ) = Some (written ++ w) in o) both.0
          ∙ sym (all_written others house v bytes ticks written other newer q),
      both.1,
    )
