-- The acts that are for one caller, and another handler that follows.
use Rattle.std.proofs.Common.{◌≡◌, ◌==◌, ℕ, ◌<◌, ◌≤◌, Bool, true, false, if◌then◌else◌, List, [], ◌∷◌, ◌++◌, refl, sym, ap, subst, arith}
use Rattle.std.proofs.lemmas.Bool.{eq-eqb, ne_eqb}
use Rattle.std.proofs.lemmas.List.{map-append}
use Rattle.base_values.specs.declared.answer.Answer.{Answer}
use Rattle.base_devices.specs.declared.device.Tick.{Tick}
use Rattle.web_http.specs.Messages.{Message}
use Rattle.web_connection.proofs.FollowLemmas.{Follows}
use Rattle.web_connections.specs.Acts.{Act, Acts, Between, between}
use Rattle.web_connections.specs.Connections.{AreOf, Connections, Heard, History, act_of, acts_of, of}

-- ---- the acts for one caller

pub of-append : (n : ℕ) (xs ys : List Heard) → of n (xs ++ ys) ≡ of n xs ++ of n ys
of-append n [] ys = refl
of-append n (h ∷ xs) ys = pick (of-append n xs ys) (h.caller == n)
  where
    pick : of n (xs ++ ys) ≡ of n xs ++ of n ys → (b : Bool) → (if b then h.act ∷ of n (xs ++ ys) else of n (xs ++ ys)) ≡ (if b then h.act ∷ of n xs else of n xs) ++ of n ys
    pick rest true = ap (λ (l : List Act). h.act ∷ l) rest
    pick rest false = rest

abbrev pub heard_by : ℕ → List Act → List Heard
heard_by n [] = []
heard_by n (a ∷ acts) = record { caller = n; act = a } ∷ heard_by n acts

pub acts_heard : (n : ℕ) (acts : List Act) → acts_of (heard_by n acts) ≡ acts
acts_heard n [] = refl
acts_heard n (a ∷ acts) = ap (λ (l : List Act). a ∷ l) (acts_heard n acts)

pub of_own : (n : ℕ) (acts : List Act) → of n (heard_by n acts) ≡ acts
of_own n [] = refl
of_own n (a ∷ acts) =
    subst (λ (b : Bool). (if b then a ∷ of n (heard_by n acts) else of n (heard_by n acts)) ≡ a ∷ acts) (sym (eq-eqb n n refl))
    (ap (λ (l : List Act). a ∷ l) (of_own n acts))

pub of_other : (n k : ℕ) (acts : List Act) → (k ≡ n → ⊥) → of n (heard_by k acts) ≡ []
of_other n k [] apart = refl
of_other n k (a ∷ acts) apart =
    subst (λ (b : Bool). (if b then a ∷ of n (heard_by k acts) else of n (heard_by k acts)) ≡ []) (sym (ne_eqb k n apart)) (of_other n k acts apart)

-- nothing was for a caller who hadn't come
pub of_later : (n came : ℕ) (heard : List Heard) → AreOf came heard → came ≤ n → of n heard ≡ []
of_later n came [] are most = refl
of_later n came (h ∷ hs) (is, are) most =
    subst (λ (b : Bool). (if b then h.act ∷ of n hs else of n hs) ≡ []) (sym (ne_eqb h.caller n (λ same. absurd (omega (arith, same, is, most))))) (of_later n came hs are most)

pub acts_of-append : (xs ys : List Heard) → acts_of (xs ++ ys) ≡ acts_of xs ++ acts_of ys
acts_of-append xs ys = map-append act_of xs ys

pub are_more : (came more : ℕ) (heard : List Heard) → came ≤ more → AreOf came heard → AreOf more heard
are_more came more [] most are = tt
are_more came more (h ∷ hs) most (is, are) = (omega (arith, is, most), are_more came more hs most are)

pub are-append : (came : ℕ) (xs ys : List Heard) → AreOf came xs → AreOf came ys → AreOf came (xs ++ ys)
are-append came [] ys a b = b
are-append came (h ∷ xs) ys (is, a) b = (is, are-append came xs ys a b)

pub are_by : (came n : ℕ) (acts : List Act) → n < came → AreOf came (heard_by n acts)
are_by came n [] lt = tt
are_by came n (a ∷ acts) lt = (lt, are_by came n acts lt)

-- ---- another handler

module _ {D E : Type 0} (Serves : D → Tick → Message → Answer → D → Type 0) (Other : E → Tick → Message → Answer → E → Type 0) (Sure : D → Type 0) (Seen : D → E → Type 0)
    (follows : Follows Serves Other Sure Seen) where
  acts_sure : (d e : D) (acts : List Act) → Acts Serves d acts e → Sure e → Sure d
  acts_sure d e [] same sure = subst Sure same sure
  acts_sure d e (a ∷ acts) (mid, serves, x) sure = follows.was_sure d a.tick a.message a.answer mid serves (acts_sure mid e acts x sure)

  pub acts_follow : (d e : D) (acts : List Act) (seen : E) → Acts Serves d acts e → Sure e → Seen d seen → (left : E) × Acts Other seen acts left × Seen e left
  acts_follow d e [] seen same sure is = (seen, refl, subst (λ (c : D). Seen c seen) (sym same) is)
  acts_follow d e (a ∷ acts) seen (mid, serves, x) sure is =
      let one = follows.one d a.tick a.message a.answer mid seen serves (acts_sure mid e acts x sure) is in
      let rest = acts_follow mid e acts one.0 x sure one.2 in
      (rest.0, (one.0, one.1, rest.1), rest.2)

  -- a handler that follows another one follows it over all conversations, which stay as they are
  pub connections_follow : (came : ℕ) (from to : Between D) (all : History) (seen : E) → Connections Serves came from to all → Sure to.handler → Seen from.handler seen
      → (left : E) × Connections Other came (between from.reported seen) (between to.reported left) all × Seen to.handler left
  connections_follow came from to all seen connections sure is =
      let x = acts_follow from.handler to.handler (acts_of all.heard) seen connections.acted sure is in
      (x.0, record { acted = x.1; reported = connections.reported; are = connections.are; firsts = connections.firsts; lasts = connections.lasts; exchanges = connections.exchanges }, x.2)
