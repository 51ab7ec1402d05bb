-- What is known of bytes that settled nothing stays known when more come.
use Rattle.std.proofs.Common.{◌≡◌, ℕ, ◌<◌, ◌≤◌, Bool, true, false, zero, suc, cond, List, [], ◌++◌, length, sym, subst, arith, append_assoc, append-nil, length-append}
use Rattle.std.proofs.lemmas.List.{take-append-le}
use Rattle.web_http.specs.Heads.{head_limit, Settles, HasNoHead, IsLastLine}
use Rattle.web_http.specs.Messages.{HasNone}
use Rattle.web_http.specs.Found.{Quiet}
use Rattle.web_http.specs.View.{Known}
use Rattle.web_http.proofs.MessageLemmas.{EndsLine-cut}

pub Known-append : (bytes more : List ℕ) (tried wanted : ℕ) → Known bytes tried wanted → Known (bytes ++ more) tried wanted
Known-append bytes more tried wanted x =
    let fits = x.tried_fits in
    record {
      tried_fits = omega (arith, length-append bytes more);
      lines = λ k le line settles.
          let here : k ≤ length bytes = omega arith in
          x.lines k le (EndsLine-cut bytes more k here line) (subst Settles (take-append-le k bytes more here) settles);
      quiet = λ rest few. subst HasNone (sym (append_assoc bytes more rest)) (x.quiet (more ++ rest) (subst (λ (t : List ℕ). length t < wanted) (append_assoc bytes more rest) few));
    }

pub Known_fed : (ok : Bool) (bytes more new : List ℕ) (tried wanted : ℕ) → new ≡ cond ok (bytes ++ more) bytes → Known bytes tried wanted
    → Known new tried wanted
Known_fed true bytes more new tried wanted is x = subst (λ (t : List ℕ). Known t tried wanted) (sym is) (Known-append bytes more tried wanted x)
Known_fed false bytes more new tried wanted is x = subst (λ (t : List ℕ). Known t tried wanted) (sym is) x

pub quiet_now : (bytes : List ℕ) (wanted : ℕ) → Quiet bytes wanted → length bytes < wanted → HasNone bytes
quiet_now bytes wanted quiet few =
    subst HasNone (append-nil bytes) (quiet [] (subst (λ (t : List ℕ). length t < wanted) (sym (append-nil bytes)) few))

pub last_fits : (bytes : List ℕ) (n : ℕ) → IsLastLine bytes n → n ≤ length bytes
last_fits bytes zero x = omega arith
last_fits bytes (suc n) x = (x.ends (omega arith)).here

-- no line has come since
pub no_new_line : (bytes : List ℕ) (end tried wanted : ℕ) → IsLastLine bytes end → end ≤ tried → length bytes < head_limit
    → Known bytes tried wanted → HasNoHead bytes
no_new_line bytes end tried wanted last le few x = (few, λ n line. let at = last.last n line in x.lines n (omega arith) line)

pub Known_lines : (bytes : List ℕ) (end tried wanted : ℕ) → IsLastLine bytes end → HasNoHead bytes → Known bytes tried wanted → Known bytes end wanted
Known_lines bytes end tried wanted last none x = record {
  tried_fits = last_fits bytes end last;
  lines = λ k le line. none.1 k line;
  quiet = x.quiet;
}
