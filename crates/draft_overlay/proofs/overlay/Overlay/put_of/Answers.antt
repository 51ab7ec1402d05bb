use Rattle.std.proofs.Common.{eqb, length, take, get_or, sym, ap, ◌∙◌, subst, arith}
use Rattle.draft_overlay.specs.Logs.{Log}
use Rattle.book_log.specs.Places.{last_place}
use Rattle.draft_overlay.specs.Coded.{put_if}
use Rattle.book_log.specs.Keys.{digest, code_keys}
use Rattle.draft_overlay.proofs.CodeKeys.{IsWalked, walk_starts, walk_within, walk_goes_on, walk_lowers, walk_ends, as_many}
use Rattle.draft_overlay.proofs.overlay.Overlay.put_of.Goals as goal

pub earlier-init : goal.earlier-init
earlier-init g c =
    let log = c.args.self.now in
    let code = c.args.code.now in
    let keys = c.self.invariant.codes_are ∙ ap (λ (l : Log). code_keys l.changes) c.self.view_is in
    walk_starts code log c.last-found.result (c.last-found.ensures ∙ ap (λ n. last_place (λ k. eqb k n) c.self.inside.codes) c.digest.ensures ∙ ap (last_place (λ k. eqb k (digest code))) keys)

pub get-requires : goal.get-requires
get-requires g c =
    let log = c.args.self.now in
    let code = c.args.code.now in
    let walked = subst (λ o. IsWalked code log o c.earlier.least) c.in-Some.is c.earlier.invariant in
    omega (arith, walk_within code log c.in-Some.place c.earlier.least walked, ap (λ (l : Log). length l.changes) c.self.view_is)

pub before-found-requires : goal.before-found-requires
before-found-requires g c =
    let log = c.args.self.now in
    let code = c.args.code.now in
    let walked = subst (λ o. IsWalked code log o c.earlier.least) c.in-Some.is c.earlier.invariant in
    omega (arith, walk_within code log c.in-Some.place c.earlier.least walked, ap (λ (l : Log). length l.changes) c.self.view_is, ap length c.self.invariant.codes_are, as_many c.self.inside.log)

pub earlier-smaller : goal.earlier-smaller
earlier-smaller g c =
    let log = c.args.self.now in
    let code = c.args.code.now in
    let place = c.in-Some.place in
    let keys = c.self.invariant.codes_are ∙ ap (λ (l : Log). code_keys l.changes) c.self.view_is in
    let walked = subst (λ o. IsWalked code log o c.earlier.least) c.in-Some.is c.earlier.invariant in
    let next = c.before-found.ensures 0 ∙ ap (λ ks. last_place (λ x. eqb x (get_or ks place 0)) (take place ks)) keys in
    rw c.in-Some.is (walk_lowers code log place c.earlier.least walked 0 c.before-found.result next)

pub earlier-preserved : goal.earlier-preserved
earlier-preserved g c =
    let log = c.args.self.now in
    let code = c.args.code.now in
    let place = c.in-Some.place in
    let keys = c.self.invariant.codes_are ∙ ap (λ (l : Log). code_keys l.changes) c.self.view_is in
    let walked = subst (λ o. IsWalked code log o c.earlier.least) c.in-Some.is c.earlier.invariant in
    let next = c.before-found.ensures 0 ∙ ap (λ ks. last_place (λ x. eqb x (get_or ks place 0)) (take place ks)) keys in
    let read = c.get.ensures ∙ ap (λ (l : Log). get_or l.changes place c.get.result.now) c.self.view_is in
    let found = c.put_if.ensures ∙ ap (put_if code place log) read in
    subst (λ o. IsWalked code log c.before-found.result o) (sym c.lesser-least.ensures) (walk_goes_on code log place c.earlier.least walked c.get.result.now 0 c.before-found.result c.put_if.result next found)

pub returns : goal.returns
returns g c = walk_ends c.args.code.now c.args.self.now c.earlier.least (subst (λ o. IsWalked c.args.code.now c.args.self.now o c.earlier.least) c.in_default.is c.earlier.invariant)
