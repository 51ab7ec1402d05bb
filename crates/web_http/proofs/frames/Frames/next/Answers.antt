use Rattle.std.proofs.Common.{◌≡◌, ℕ, ◌+◌, ◌<◌, List, ◌++◌, length, drop, refl, sym, ap, ◌∙◌, subst, arith}
use Rattle.std.proofs.lemmas.List.{drop-drop, take_rest, with_items_is}
use Rattle.std.specs.Vec.{with_items}
use Rattle.httparse.specs.declared.spans.HeaderSpan.{HeaderSpan}
use Rattle.web_http.specs.Heads.{HasNoHead, IsLastLine}
use Rattle.web_http.specs.Framed.{Framed}
use Rattle.web_http.specs.Messages.{Takes, Faults, HasNone}
use Rattle.web_http.specs.Found.{message_found}
use Rattle.web_http.proofs.MessageLemmas.{Takes-append, Takes_shorter, Faults-append}
use Rattle.web_http.proofs.FirstLemmas.{no_head}
use Rattle.web_http.proofs.KnownLemmas.{quiet_now, no_new_line, Known_lines}
use Rattle.web_http.proofs.frames.Frames.next.Goals as goal

pub returns-then-rest-self : goal.returns-then-rest-self
returns-then-rest-self c =
    let left = ap (λ (f : Framed). f.left) c.self.view_is in
    let same = take_rest c.deref.result.now c.self.inside.start ∙ ap (drop c.self.inside.start) c.deref.ensures.value in
    let test = subst (λ (t : List ℕ). length t < c.self.inside.wanted) same c.if-rest-self.true in
    (subst HasNone left (quiet_now _ _ c.self.invariant.known.quiet test), left, refl)

pub returns-then-rest-lt-HEAD_LIMIT : goal.returns-then-rest-lt-HEAD_LIMIT
returns-then-rest-lt-HEAD_LIMIT c =
    let left = ap (λ (f : Framed). f.left) c.self.view_is in
    let same = take_rest c.deref.result.now c.self.inside.start ∙ ap (drop c.self.inside.start) c.deref.ensures.value in
    let few = subst (λ (t : List ℕ). length t < 16384) same c.if-rest-lt-HEAD_LIMIT.true in
    let last = subst (λ (t : List ℕ). IsLastLine t c.last_line-end.result) same c.last_line-end.ensures in
    (subst HasNone left (no_head _ (no_new_line _ _ _ _ last c.if-end-self.true few c.self.invariant.known)), left, refl)

pub invariant_of-self-in-NoHead : goal.invariant_of-self-in-NoHead
invariant_of-self-in-NoHead c =
    let same = take_rest c.deref.result.now c.self.inside.start ∙ ap (drop c.self.inside.start) c.deref.ensures.value in
    let last = subst (λ (t : List ℕ). IsLastLine t c.last_line-end.result) same c.last_line-end.ensures in
    let none = subst HasNoHead same c.in-NoHead.ensures in
    record {
      start = c.self.invariant.start;
      base = c.self.invariant.base;
      room = ap length (with_items_is c.self.inside.headers c.find_first.new.headers (omega arith)) ∙ omega arith;
      known = Known_lines _ _ _ _ last none c.self.invariant.known;
      within = tt;
    }

pub returns-in-NoHead : goal.returns-in-NoHead
returns-in-NoHead c =
    let left = ap (λ (f : Framed). f.left) c.self.view_is in
    let same = take_rest c.deref.result.now c.self.inside.start ∙ ap (drop c.self.inside.start) c.deref.ensures.value in
    (subst HasNone left (no_head _ (subst HasNoHead same c.in-NoHead.ensures)), left, refl)

pub returns-in-NoBody : goal.returns-in-NoBody
returns-in-NoBody c =
    let left = ap (λ (f : Framed). f.left) c.self.view_is in
    let same = take_rest c.deref.result.now c.self.inside.start ∙ ap (drop c.self.inside.start) c.deref.ensures.value in
    (subst HasNone (same ∙ left) (quiet_now _ _ c.in-NoBody.ensures.1 c.in-NoBody.ensures.0), left, refl)

pub returns-in-Broken : goal.returns-in-Broken
returns-in-Broken c =
    let left = ap (λ (f : Framed). f.left) c.self.view_is in
    let rest = take_rest c.deref.result.now c.self.inside.start ∙ ap (drop c.self.inside.start) c.deref.ensures.value ∙ left in
    (λ more. Faults-append _ more _ (subst (λ (t : List ℕ). Faults t c.in-Broken.fault) rest c.in-Broken.ensures), left, refl)

pub returns-in-Message : goal.returns-in-Message
returns-in-Message c =
    let f = c.in-Message.found in
    let n = f.head.len + f.body in
    let start = c.self.inside.start in
    let here = drop start c.self.inside.buffer.items in
    let rest = drop (start + n) c.self.inside.buffer.items in
    let left = ap (λ (f : Framed). f.left) c.self.view_is in
    let same = take_rest c.deref.result.now start ∙ ap (drop start) c.deref.ensures.value in
    let headers = (with_items c.self.inside.headers c.find_first.new.headers).items in
    let spans : headers ≡ c.find_first.new.headers = with_items_is c.self.inside.headers c.find_first.new.headers (omega arith) in
    let a = subst (λ (t : List ℕ). Takes t (message_found t c.find_first.new.headers f) (drop n t)) same c.in-Message.ensures.1 in
    let b = subst (λ (hs : List HeaderSpan). Takes here (message_found here hs f) (drop n here)) (sym spans) a in
    let t = subst (λ (r : List ℕ). Takes here (message_found here headers f) r) (drop-drop n start c.self.inside.buffer.items) b in (
      message_found here headers f,
      refl,
      λ more. subst (λ (t : List ℕ). Takes (t ++ more) (message_found here headers f) (rest ++ more)) left (Takes-append here _ rest more t),
      subst (λ (t : List ℕ). length rest < length t) left (Takes_shorter here _ rest t),
    )
