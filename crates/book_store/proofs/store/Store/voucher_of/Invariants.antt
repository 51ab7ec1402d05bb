use Rattle.std.proofs.Common.{◌≡◌, drop}
use Rattle.std.specs.Prelude.{find}
use Rattle.base_values.specs.Texts.{same_text}
use Rattle.book_store.specs.Walks.{rows_of}
use Rattle.book_store.proofs.store.Store.voucher_of.Given as goal

-- the first of what is left is the first of all
abbrev pub invariant-loop-place : goal.invariant-loop-place
invariant-loop-place l = find (λ r. same_text r.code l.code) (rows_of (λ r. r.id) (drop l.place l.ids) l.self.state.lists.vouchers) ≡ find (λ r. same_text r.code l.code) (rows_of (λ r. r.id) l.ids l.self.state.lists.vouchers)
