use Rattle.std.proofs.Common.{ℕ, ◌-◌, ◌<◌, ◌≤◌, [], length, get_or, sym, subst, arith}
use Rattle.std.specs.List.{concat}
use Rattle.base_tables.specs.Tables.{Table, AreInOrder, IsPlace, IsGap}
use Rattle.base_index.specs.Blocks.{start_of}
use Rattle.base_index.proofs.RoomLemmas.{few_places, place_whole, gap_whole, block_rises, when_ok, when_err}
use Rattle.base_index.proofs.blocks.Blocks.place_of.Goals as goal

pub place_in-requires-clause-in_order : goal.place_in-requires-clause-in_order
place_in-requires-clause-in_order c =
    let a = c.self.inside in
    let block = c.block_for-block.result in
    let some : 0 < length a.chain = omega (arith, c.if-count-eq0.false, c.count.ensures) in
    let last : a.last < length a.chain = omega (arith, c.self.invariant.within) in
    let lt : block < length a.chain = omega (arith, c.block_for-block.ensures.within) in
    let order : AreInOrder (λ n. n) (concat a.chain) = subst (λ (t : Table ℕ). AreInOrder (λ n. n) t.rows) (sym c.self.view_is) c.requires in
    block_rises a.chain block lt order

pub returns-clause-found : goal.returns-clause-found
returns-clause-found c =
    let a = c.self.inside in
    let block = c.block_for-block.result in
    let some : 0 < length a.chain = omega (arith, c.if-count-eq0.false, c.count.ensures) in
    let last : a.last < length a.chain = omega (arith, c.self.invariant.within) in
    let lt : block < length a.chain = omega (arith, c.block_for-block.ensures.within) in
    let order : AreInOrder (λ n. n) (concat a.chain) = subst (λ (t : Table ℕ). AreInOrder (λ n. n) t.rows) (sym c.self.view_is) c.requires in
    rw (← c.self.view_is) (when_ok (λ p. (start_of block a.chain ≤ p) × IsPlace (λ n. n) (get_or a.chain block []) c.args.entry (p - start_of block a.chain)) (λ p. IsPlace (λ n. n) (concat a.chain) c.args.entry p) c.place_in.result (λ p h. place_whole a.chain a.last a.room c.self.invariant block p c.args.entry lt h.0 h.1) c.place_in.ensures.found)

pub returns-clause-absent : goal.returns-clause-absent
returns-clause-absent c =
    let a = c.self.inside in
    let block = c.block_for-block.result in
    let some : 0 < length a.chain = omega (arith, c.if-count-eq0.false, c.count.ensures) in
    let last : a.last < length a.chain = omega (arith, c.self.invariant.within) in
    let lt : block < length a.chain = omega (arith, c.block_for-block.ensures.within) in
    let order : AreInOrder (λ n. n) (concat a.chain) = subst (λ (t : Table ℕ). AreInOrder (λ n. n) t.rows) (sym c.self.view_is) c.requires in
    rw (← c.self.view_is)
    (when_err (λ p. (start_of block a.chain ≤ p) × IsGap (λ n. n) (get_or a.chain block []) c.args.entry (p - start_of block a.chain)) (λ p. IsGap (λ n. n) (concat a.chain) c.args.entry p)
    c.place_in.result (λ p h. gap_whole a.chain a.last a.room c.self.invariant block p c.args.entry order last c.block_for-block.ensures.within c.block_for-block.ensures.from c.block_for-block.ensures.before h.0 h.1) c.place_in.ensures.absent)

pub returns-clause-few : goal.returns-clause-few
returns-clause-few c =
    let a = c.self.inside in
    let block = c.block_for-block.result in
    let some : 0 < length a.chain = omega (arith, c.if-count-eq0.false, c.count.ensures) in
    let last : a.last < length a.chain = omega (arith, c.self.invariant.within) in
    let lt : block < length a.chain = omega (arith, c.block_for-block.ensures.within) in
    let order : AreInOrder (λ n. n) (concat a.chain) = subst (λ (t : Table ℕ). AreInOrder (λ n. n) t.rows) (sym c.self.view_is) c.requires in
    when_ok (λ p. (start_of block a.chain ≤ p) × IsPlace (λ n. n) (get_or a.chain block []) c.args.entry (p - start_of block a.chain)) (λ p. p < 4294967296) c.place_in.result (λ p h. omega (arith, (place_whole a.chain a.last a.room c.self.invariant block p c.args.entry lt h.0 h.1).in_range, few_places a.chain a.last a.room c.self.invariant)) c.place_in.ensures.found
