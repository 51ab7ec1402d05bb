-- Amounts that are added up.
use Rattle.std.proofs.Common.{◌≡◌, ℕ, ◌+◌, ◌≤◌, ap, arith}
use Rattle.model_rows.specs.declared.rows.Usage.{Usage}
use Rattle.model_rows.specs.Total.{total}
use Rattle.book_tally.specs.declared.amount.Uses.{Uses}
use Rattle.book_tally.specs.Amounts.{nothing, plus, adds, no_uses, plus_uses}

-- usages that are the same count by count
pub same_usage : (u v : Usage) → u.paid ≡ v.paid → u.pending ≡ v.pending → u.blocked ≡ v.blocked → u.carts ≡ v.carts → u.waiting ≡ v.waiting → u.exited ≡ v.exited → u ≡ v
same_usage u v paid pending blocked carts waiting exited = λ i. record { paid = paid i; pending = pending i; blocked = blocked i; carts = carts i; waiting = waiting i; exited = exited i }

pub same_uses : (u v : Uses) → u.used ≡ v.used → u.held ≡ v.held → u.spent ≡ v.spent → u ≡ v
same_uses u v used held spent = λ i. record { used = used i; held = held i; spent = spent i }

-- with nothing more they stay as they are
pub alone : (u : Usage) → plus u nothing ≡ u
alone u = same_usage (plus u nothing) u (omega arith) (omega arith) (omega arith) (omega arith) (omega arith) (omega arith)

pub alone_uses : (u : Uses) → plus_uses u no_uses ≡ u
alone_uses u = same_uses (plus_uses u no_uses) u (omega arith) (omega arith) (omega arith)

-- what comes to what came
pub plus_both : (u v w : Usage) → plus (plus u v) w ≡ plus u (plus v w)
plus_both u v w = same_usage (plus (plus u v) w) (plus u (plus v w)) (omega arith) (omega arith) (omega arith) (omega arith) (omega arith) (omega arith)

-- what came and went before, and with one step more
pub stepped : (u v w come gone come' gone' : Usage) → plus v gone ≡ plus u come → plus w gone' ≡ plus v come' → plus w (plus gone gone') ≡ plus u (plus come come')
stepped u v w come gone come' gone' e f =
    same_usage (plus w (plus gone gone')) (plus u (plus come come'))
    (omega (arith, ap (λ (x : Usage). x.paid) e, ap (λ (x : Usage). x.paid) f))
    (omega (arith, ap (λ (x : Usage). x.pending) e, ap (λ (x : Usage). x.pending) f))
    (omega (arith, ap (λ (x : Usage). x.blocked) e, ap (λ (x : Usage). x.blocked) f))
    (omega (arith, ap (λ (x : Usage). x.carts) e, ap (λ (x : Usage). x.carts) f))
    (omega (arith, ap (λ (x : Usage). x.waiting) e, ap (λ (x : Usage). x.waiting) f))
    (omega (arith, ap (λ (x : Usage). x.exited) e, ap (λ (x : Usage). x.exited) f))

pub stepped_uses : (u v w come gone come' gone' : Uses) → plus_uses v gone ≡ plus_uses u come → plus_uses w gone' ≡ plus_uses v come' → plus_uses w (plus_uses gone gone') ≡ plus_uses u (plus_uses come come')
stepped_uses u v w come gone come' gone' e f =
    same_uses (plus_uses w (plus_uses gone gone')) (plus_uses u (plus_uses come come'))
    (omega (arith, ap (λ (x : Uses). x.used) e, ap (λ (x : Uses). x.used) f))
    (omega (arith, ap (λ (x : Uses). x.held) e, ap (λ (x : Uses). x.held) f))
    (omega (arith, ap (λ (x : Uses). x.spent) e, ap (λ (x : Uses). x.spent) f))

-- the same of all places together: what has come and gone out uses none, so each side takes off of one amount, whose exits are among its paid ones
pub total_both : (u v gone come : Usage) → u.exited ≤ u.paid → v.exited ≤ v.paid → plus u gone ≡ plus v come → total u + (adds gone + come.exited) ≡ total v + (adds come + gone.exited)
total_both u v gone come within_u within_v e = omega (arith, within_u, within_v, ap (λ (x : Usage). x.paid) e, ap (λ (x : Usage). x.pending) e, ap (λ (x : Usage). x.blocked) e, ap (λ (x : Usage). x.carts) e, ap (λ (x : Usage). x.waiting) e, ap (λ (x : Usage). x.exited) e)
