-- Amounts that come and go: what uses a quota, how often a voucher is used, and what is spent of it.
use Rattle.std.specs.Prelude.{ℕ, ◌+◌}
use Rattle.model_rows.specs.declared.rows.Usage.{Usage}
use Rattle.book_tally.specs.declared.amount.Uses.{Uses}

-- a usage of no places
abbrev pub nothing : Usage
nothing = record { paid = 0; pending = 0; blocked = 0; carts = 0; waiting = 0; exited = 0 }

-- both together, count by count
abbrev pub plus : Usage → Usage → Usage
plus a b = record { paid = a.paid + b.paid; pending = a.pending + b.pending; blocked = a.blocked + b.blocked; carts = a.carts + b.carts; waiting = a.waiting + b.waiting; exited = a.exited + b.exited }

-- what uses places; those of the paid ones that have gone out stand beside it
abbrev pub adds : Usage → ℕ
adds usage = usage.paid + usage.pending + usage.blocked + usage.carts + usage.waiting

-- a voucher that isn't used, isn't held, and of which nothing is spent
abbrev pub no_uses : Uses
no_uses = record { used = 0; held = 0; spent = 0 }

-- both together
abbrev pub plus_uses : Uses → Uses → Uses
plus_uses a b = record { used = a.used + b.used; held = a.held + b.held; spent = a.spent + b.spent }
