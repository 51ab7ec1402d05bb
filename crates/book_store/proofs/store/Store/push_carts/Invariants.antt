use Rattle.std.proofs.Common.{◌≡◌, ◌++◌, drop, map, filter}
use Rattle.base_values.specs.Texts.{same_text}
use Rattle.book_store.specs.Walks.{rows_of}
use Rattle.book_store.proofs.store.Store.push_carts.Given as goal

-- the ids so far and those of what is left
abbrev pub invariant-loop-place : goal.invariant-loop-place
invariant-loop-place l = l.ids.items ++ map (λ r. r.id) (filter (λ r. same_text r.cart_id l.cart) (rows_of (λ r. r.id) (drop l.place l.found) l.self.state.lists.carts)) ≡ l.fn.ids.items ++ map (λ r. r.id) (filter (λ r. same_text r.cart_id l.cart) (rows_of (λ r. r.id) l.found l.self.state.lists.carts))
