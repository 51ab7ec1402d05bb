use Rattle.std.proofs.Common.{◌≡◌, ◌∙◌, List, ℕ, Some, IfOk, OnErr, ap, arith, sym, subst}
use Rattle.sha2.specs.Sha256.{sha256}
use Rattle.sqlite.specs.Held.{state}
use Rattle.sqlite.specs.State.{HasCleanDisk, Survives}
use Rattle.file_tables.specs.Tokens.{AddsNext, HasNoRoom}
use Rattle.app_files.specs.Filed.{GetsToken}
use Rattle.file_schema.specs.Tables.{schema}
use Rattle.file_schema.specs.Whole.{IsOver, IsStill, MayBeWritten}
use Rattle.app_files.proofs.TokenLemmas.{got, told_for, told_full, told_none, told_number}
use Rattle.app_files.proofs.adding.add_over.Goals as goal

pub returns : goal.returns
returns g c =
    let tables = c.args.opened.tables in
    let later = c.add_token-added.new.tables in
    let old = state g.S.Store tables.connection in
    let new = state g.S.Store later.connection in
    let e = c.add_token-added.ensures in
    let digest_is : c.digest.result ≡ sha256 c.args.token.now = c.digest.ensures ∙ ap sha256 c.as_bytes.ensures.value in
    let cleans : HasCleanDisk new → HasCleanDisk old = λ clean. omega (arith, clean, e.crash.clean) in
    let all = got c.add_token-added.result tables.head later.head tables.next_row later.next_row c.digest.result old new cleans e.was_open e.next_row e.number e.head e.knows e.leaves_house e.holds in
    let by_digest : IfOk c.add_token-added.result (λ number. HasCleanDisk new → GetsToken tables.head tables.next_row (sha256 c.args.token.now) number old new) =
    subst (λ (d : List ℕ). IfOk c.add_token-added.result (λ number. HasCleanDisk new → GetsToken tables.head tables.next_row d number old new)) digest_is all in
    let cleared : HasCleanDisk (state g.S.Store c.connection_of.result) → HasCleanDisk new = λ clean. subst (λ it. HasCleanDisk (state g.S.Store it)) c.connection_of.ensures clean in
    record {
      gets = told_number c.add_token-added.result c.told.result _ c.told.ensures
          (subst (λ it. IfOk c.add_token-added.result (λ number. HasCleanDisk (state g.S.Store it) → GetsToken tables.head tables.next_row (sha256 c.args.token.now) number old (state g.S.Store it))) (sym c.connection_of.ensures) by_digest);
      cause = told_for c.add_token-added.result c.told.result c.told.ensures;
      full = λ is clean house knows.
          subst (λ (d : List ℕ). HasNoRoom (house.tokens d) tables.head.next_token) digest_is (e.full (cleared clean) house knows (told_full c.add_token-added.result (sym c.told.ensures ∙ is)));
      full_open = λ is clean. e.full_open (cleared clean) (told_full c.add_token-added.result (sym c.told.ensures ∙ is));
      clean = λ clean. cleans (cleared clean);
      none = subst (λ it. HasCleanDisk (state g.S.Store it) → IsOver schema old → OnErr c.told.result (IsStill old (state g.S.Store it))) (sym c.connection_of.ensures)
          (λ clean over. told_none c.add_token-added.result c.told.result _ c.told.ensures (e.none clean over));
      crash = subst (λ it. Survives old (state g.S.Store it) (MayBeWritten schema (λ (_ : Unit {0}). AddsNext tables.head (sha256 c.args.token.now)) old)) (sym c.connection_of.ensures)
          (subst (λ (d : List ℕ). Survives old new (MayBeWritten schema (λ (_ : Unit {0}). AddsNext tables.head d) old)) digest_is e.crash);
      known_crash = λ clean house knows number is.
          subst (λ it. Survives old (state g.S.Store it) (λ _. ⊥)) (sym c.connection_of.ensures)
          (e.known_crash (cleared clean) house knows number (subst (λ (d : List ℕ). house.tokens d ≡ Some number) (sym digest_is) is));
    }
