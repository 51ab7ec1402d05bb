-- A run at a handler is a list of acts there, and a run at a handler that records them.
use Rattle.std.proofs.Common.{◌≡◌, ℕ, List, [], ◌∷◌, ◌++◌, map, Option, Some, Ok, Err, refl, sym, ap, ◌∙◌, subst, subst₂, append_assoc, append-nil}
use Rattle.std.proofs.lemmas.List.{map-append}
use Rattle.base_values.specs.declared.answer.Answer.{Answer}
use Rattle.base_devices.specs.declared.device.Tick.{Tick}
use Rattle.base_devices.specs.Reported.{Adds}
use Rattle.base_devices.proofs.ToldLemmas.{Adds-append}
use Rattle.web_http.specs.Messages.{Message, whole}
use Rattle.web_connection.specs.declared.failure.Failure.{Failure}
use Rattle.web_connection.specs.declared.failure.Failure.TheVariants as failures
use Rattle.web_connection.specs.Run.{Item, Runs, Cursor, Progress, Finished, CutOff, Stopped, BreaksOff, Broken}
use Rattle.web_connections.specs.declared.phase.Phase.{Phase}
use Rattle.web_connections.specs.declared.phase.Phase.TheVariants as phases
use Rattle.web_connections.specs.Acts.{Act, Acts, Records, tick_of, ticks}
use Rattle.web_connections.specs.Exchanges.{Went, acts_recorded}

pub ticks-append : (xs ys : List Act) → ticks (xs ++ ys) ≡ ticks xs ++ ticks ys
ticks-append xs ys = map-append tick_of xs ys

-- the ticks of more acts are told
told_own : (own acts : List Act) (ts : List Tick) → ts ≡ ticks acts → Adds (Some (ticks own)) ts (Some (ticks (own ++ acts)))
told_own own acts ts is = ap (λ (us : List Tick). Some us) (ticks-append own acts ∙ ap (λ (us : List Tick). ticks own ++ us) (sym is))

-- what is added to a text is added to a longer one
added_on : (text b w a : List ℕ) → Adds (Some b) w (Some a) → Adds (Some (text ++ b)) w (Some (text ++ a))
added_on text b w a is =
    let same : a ≡ b ++ w = cc in
    ap (λ (u : List ℕ). Some u) (ap (λ (u : List ℕ). text ++ u) same ∙ sym (append_assoc text b w))

module _ {D : Type 0} (Serves : D → Tick → Message → Answer → D → Type 0) where
  pub Acts-append : (d e f : D) (xs ys : List Act) → Acts Serves d xs e → Acts Serves e ys f → Acts Serves d (xs ++ ys) f
  Acts-append d e f [] ys same y = subst (λ (c : D). Acts Serves c ys f) same y
  Acts-append d e f (a ∷ xs) ys (mid, serves, x) y = (mid, serves, Acts-append mid e f xs ys x y)

  abbrev RecordsRun : D → List Tick → List Item → List ℕ → D → Type 0
  RecordsRun d ts items w e = (acts : List Act) × Acts Serves d acts e × (ts ≡ ticks acts) × ((own : List Act) → Runs Records own ts items w (own ++ acts))

  record_run : (d e : D) (ts : List Tick) (items : List Item) (w : List ℕ) → Runs Serves d ts items w e → RecordsRun d ts items w e
  record_run d e [] [] w (none, same) = ([], same, refl, λ own. (none, append-nil own))
  record_run d e [] (Err f ∷ items) w (is, same, last) = ([], same, refl, λ own. (is, append-nil own, last))
  record_run d e [] (Ok m ∷ items) w x = absurd x
  record_run d e (t ∷ ts) [] w x = absurd x
  record_run d e (t ∷ ts) (Err f ∷ items) w x = absurd x
  record_run d e (t ∷ ts) (Ok m ∷ items) w (mid, answer, rest, serves, is, x) =
      let y = record_run mid e ts items rest x in
      let a : Act = record { tick = t; message = m; answer = answer } in (
        a ∷ y.0,
        (mid, serves, y.1),
        ap (λ (us : List Tick). t ∷ us) y.2,
        λ own. (
          own ++ a ∷ [],
          answer,
          rest,
          refl,
          is,
          subst (λ (os : List Act). Runs Records (own ++ a ∷ []) ts items rest os) (append_assoc own (a ∷ []) y.0) (y.3 (own ++ a ∷ [])),
        ),
      )

  -- a relation of two slots is one of the acts between them, and the same relation at the recording handler
  abbrev pub Recorded : Cursor D → Cursor D → List ℕ → List ℕ → (Cursor (List Act) → Cursor (List Act) → Type 0) → Type 0
  Recorded p q b a Rel =
      (acts : List Act) × Acts Serves p.handler acts q.handler × Adds p.reported (ticks acts) q.reported
      × ((own : List Act) (text : List ℕ) → Rel (acts_recorded p.left own (text ++ b)) (acts_recorded q.left (own ++ acts) (text ++ a)))

  progress_recorded : (p q : Cursor D) (b a : List ℕ) → p.taken ≡ Some b → q.taken ≡ Some a → Progress Serves p q → Recorded p q b a (Progress Records)
  progress_recorded p q b a is-b is-a x =
      let r = record_run p.handler q.handler x.ticks (map whole x.messages) x.written x.runs in
      let taken = subst₂ (λ (s t : Option (List ℕ)). Adds s x.written t) is-b is-a x.taken in (
        r.0,
        r.1,
        subst (λ (ts : List Tick). Adds p.reported ts q.reported) r.2 x.reported,
        λ own text. record {
          messages = x.messages;
          ticks = x.ticks;
          written = x.written;
          chain = x.chain;
          reported = told_own own r.0 x.ticks r.2;
          taken = added_on text b x.written a taken;
          runs = r.3 own;
        },
      )

  finished_recorded : (IsOf : List Item → Type 0) (p q : Cursor D) (b a : List ℕ) → p.taken ≡ Some b → q.taken ≡ Some a → Finished Serves IsOf p q → Recorded p q b a (Finished Records IsOf)
  finished_recorded IsOf p q b a is-b is-a x =
      let r = record_run p.handler q.handler x.ticks x.items x.written x.runs in
      let taken = subst₂ (λ (s t : Option (List ℕ)). Adds s x.written t) is-b is-a x.taken in (
        r.0,
        r.1,
        subst (λ (ts : List Tick). Adds p.reported ts q.reported) r.2 x.reported,
        λ own text. record {
          items = x.items;
          ticks = x.ticks;
          written = x.written;
          all = x.all;
          reported = told_own own r.0 x.ticks r.2;
          taken = added_on text b x.written a taken;
          runs = r.3 own;
        },
      )

  cut_recorded : (p q : Cursor D) (b a : List ℕ) → p.taken ≡ Some b → q.taken ≡ Some a → CutOff Serves p q → Recorded p q b a (CutOff Records)
  cut_recorded p q b a is-b is-a x =
      let r = record_run p.handler q.handler x.ticks (x.item ∷ []) (x.part ++ x.rest) x.runs in
      let taken = subst₂ (λ (s t : Option (List ℕ)). Adds s x.part t) is-b is-a x.taken in (
        r.0,
        r.1,
        subst (λ (ts : List Tick). Adds p.reported ts q.reported) r.2 x.reported,
        λ own text. record {
          item = x.item;
          ticks = x.ticks;
          part = x.part;
          rest = x.rest;
          next = x.next;
          reported = told_own own r.0 x.ticks r.2;
          taken = added_on text b x.part a taken;
          runs = r.3 own;
        },
      )

  stopped_recorded : (p q : Cursor D) (b a : List ℕ) → p.taken ≡ Some b → q.taken ≡ Some a → Stopped p q → Recorded p q b a Stopped
  stopped_recorded p q b a is-b is-a x =
      let taken = subst₂ (λ (s t : Option (List ℕ)). Adds s [] t) is-b is-a x.taken in (
        [],
        x.handler,
        x.reported,
        λ own text. record { reported = told_own own [] [] refl; taken = added_on text b [] a taken; handler = append-nil own },
      )

  breaks_recorded : (e : Failure) (p q : Cursor D) (b a : List ℕ) → p.taken ≡ Some b → q.taken ≡ Some a → BreaksOff Serves e p q → Recorded p q b a (BreaksOff Records e)
  breaks_recorded failures.Output p q b a is-b is-a x = cut_recorded p q b a is-b is-a x
  breaks_recorded failures.Clock p q b a is-b is-a (x, y) = let r = stopped_recorded p q b a is-b is-a x in (r.0, r.1, r.2, λ own text. (r.3 own text, y))
  breaks_recorded failures.Input p q b a is-b is-a (x, y) = let r = stopped_recorded p q b a is-b is-a x in (r.0, r.1, r.2, λ own text. (r.3 own text, y))
  breaks_recorded failures.Limit p q b a is-b is-a (x, y) = let r = stopped_recorded p q b a is-b is-a x in (r.0, r.1, r.2, λ own text. (r.3 own text, y))
  breaks_recorded failures.Memory p q b a is-b is-a (x, y) = let r = stopped_recorded p q b a is-b is-a x in (r.0, r.1, r.2, λ own text. (r.3 own text, y))

  broken_recorded : (e : Failure) (p q : Cursor D) (b a : List ℕ) → p.taken ≡ Some b → q.taken ≡ Some a → Broken Serves e p q → Recorded p q b a (Broken Records e)
  broken_recorded e p q b a is-b is-a x =
      let mid = x.mid in
      let w = x.before.written in
      let is-m : mid.taken ≡ Some (b ++ w) = subst (λ (s : Option (List ℕ)). Adds s w mid.taken) is-b x.before.taken in
      let r = progress_recorded p mid b (b ++ w) is-b is-m x.before in
      let s = breaks_recorded e mid q (b ++ w) a is-m is-a x.last in (
        r.0 ++ s.0,
        Acts-append p.handler mid.handler q.handler r.0 s.0 r.1 s.1,
        subst (λ (ts : List Tick). Adds p.reported ts q.reported) (sym (ticks-append r.0 s.0)) (Adds-append p.reported mid.reported q.reported (ticks r.0) (ticks s.0) r.2 s.2),
        λ own text. record {
          mid = acts_recorded mid.left (own ++ r.0) (text ++ (b ++ w));
          before = r.3 own text;
          last = subst (λ (os : List Act). BreaksOff Records e (acts_recorded mid.left (own ++ r.0) (text ++ (b ++ w))) (acts_recorded q.left os (text ++ a)))
              (append_assoc own r.0 s.0) (s.3 (own ++ r.0) text);
        },
      )

  pub went_recorded : (after : Option (List ℕ)) (phase : Phase) (p q : Cursor D) (b a : List ℕ) → p.taken ≡ Some b → q.taken ≡ Some a → Went Serves after phase p q
      → Recorded p q b a (Went Records after phase)
  went_recorded after phases.Waits p q b a is-b is-a (x, none) = let r = progress_recorded p q b a is-b is-a x in (r.0, r.1, r.2, λ own text. (r.3 own text, none))
  went_recorded after phases.Goes p q b a is-b is-a x = progress_recorded p q b a is-b is-a x
  went_recorded after phases.Ends p q b a is-b is-a x = finished_recorded _ p q b a is-b is-a x
  went_recorded after phases.Lost p q b a is-b is-a (e, x) = let r = broken_recorded e p q b a is-b is-a x in (r.0, r.1, r.2, λ own text. (e, r.3 own text))
