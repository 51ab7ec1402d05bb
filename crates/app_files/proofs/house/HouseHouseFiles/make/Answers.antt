use Rattle.std.proofs.Common.{◌≡◌, rules, Bool, false, subst}
use Rattle.app_files.proofs.house.HouseHouseFiles.make.Goals as goal

pub returns-in-Ok : goal.returns-in-Ok
returns-in-Ok g c =
    let no : c.stands.result ≡ false = search rules in
    let stood = subst (λ (b : Bool). g.F.Shelf.stood c.args.file.now b) no c.stands.ensures in
    rw (c.in-Ok.ensures.0, c.in-Ok.ensures.1) at (c.made.ensures stood)
