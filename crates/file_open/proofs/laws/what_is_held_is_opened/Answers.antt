use Rattle.std.proofs.Common.{map, refl, sym}
use Rattle.sqlite.specs.Held.{state}
use Rattle.file_scan.proofs.FitLemmas.{of_machine}
use Rattle.file_scan.proofs.LimitLemmas.{sound_fits}
use Rattle.file_open.proofs.Least.{clear}
use Rattle.file_open.proofs.Undamaged.{undamaged, same_shop}
use Rattle.file_open.proofs.laws.what_is_held_is_opened.Goals as goal

pub returns-clause-shows : goal.returns-clause-shows
returns-clause-shows g c = λ head next s ks its. (record { now = refl; committed = sym its.settled }, its.known)

pub returns-clause-whole : goal.returns-clause-whole
returns-clause-whole g c = λ head next s ks its. undamaged head its.tables s ks its.stand (state g.S.Store c.args.held.now).now.trees its.held its.typed.numbered its.typed.organizer its.typed.event

pub returns-clause-no_fault : goal.returns-clause-no_fault
returns-clause-no_fault g c = λ head next s ks its sound.
    let db = (state g.S.Store c.args.held.now).now in
    let is = its.typed in
    let fit = sound_fits head its.tables s ks is.first is.organizer is.event is.token its.stand sound is.rows in
    clear db its.known (of_machine db its.known its.tables its.held fit) (undamaged head its.tables s ks its.stand db.trees its.held is.numbered is.organizer is.event sound)

pub returns-clause-same : goal.returns-clause-same
returns-clause-same g c = λ head next s ks its shop number z o.
    same_shop (state g.S.Store c.args.held.now).now.trees its.tables o.tables its.held o.held head shop s z ks (map (λ r. r.kept) o.tables.kept) its.stand o.stand
