-- Columns that were bound, one after another.
use Rattle.std.proofs.Common.{◌≡◌, ◌<◌, ◌+◌, ℕ, List, [], ◌∷◌, ◌++◌, length, map, take, Result, Ok, Err, IfOk, slice_index_or, slice_set, sym, ap, subst, ◌∙◌}
use Rattle.std.proofs.Math.Seq.{take-length}
use Rattle.std.proofs.lemmas.List.{take_more_set, take_more, map-append}
use Rattle.sqlite_value.specs.declared.value.ValueRef.{ValueRef}
use Rattle.sqlite_value.specs.Order.{Row}
use Rattle.sqlite.specs.Values.{bound}
use Rattle.sqlite.specs.State.{State, Executes}
use Rattle.file_schema.specs.declared.error.RowError.{RowError}
use Rattle.file_writes.specs.Bound.{AreBound}

-- one more of them is written
pub one_more : {A E : Type 0} (ps : List A) (cs : List (Result A E)) (i : ℕ) (v : A) (d : Result A E) → map Ok (take i ps) ≡ take i cs → i < length ps → i < length cs → slice_index_or cs i d ≡ Ok v
    → map Ok (take (i + 1) (slice_set ps i v)) ≡ take (i + 1) cs
one_more ps cs i v d done room more here =
    ap (map Ok) (take_more_set ps i v room) ∙ map-append Ok (take i ps) (v ∷ []) ∙ ap (λ l. l ++ Ok v ∷ []) done ∙ ap (λ x. take i cs ++ x ∷ []) (sym here) ∙ sym (take_more cs i d more)

values_bound : (ps : List ValueRef) (values : Row) → AreBound (map Ok ps) values → bound ps ≡ values
values_bound [] values h = sym h
values_bound (p ∷ ps) [] h = absurd h
values_bound (p ∷ ps) (v ∷ vs) h = rw (h.0, values_bound ps vs h.1)

-- where all were bound, the parameters are their values
all_bound : (ps : List ValueRef) (cs : List (Result ValueRef RowError)) → map Ok (take (length cs) ps) ≡ take (length cs) cs → (values : Row) → AreBound cs values → bound (take (length cs) ps) ≡ values
all_bound ps cs done values h = values_bound (take (length cs) ps) values (subst (λ l. AreBound l values) (sym (done ∙ take-length cs)) h)

-- a statement that ran with the parameters ran with the columns' values
pub runs_bound : (r : Result ℕ RowError) (sql : List ℕ) (old new : State) (ps : List ValueRef) (cs : List (Result ValueRef RowError)) → map Ok (take (length cs) ps) ≡ take (length cs) cs
    → IfOk r (λ count. Executes sql (bound (take (length cs) ps)) old new (Ok count)) → IfOk r (λ count. (values : Row) → AreBound cs values → Executes sql values old new (Ok count))
runs_bound (Ok count) sql old new ps cs done h = λ values are. subst (λ p. Executes sql p old new (Ok count)) (all_bound ps cs done values are) h
runs_bound (Err e) sql old new ps cs done h = tt

-- and so with the values of a row
pub runs_with : (r : Result ℕ RowError) (sql : List ℕ) (old new : State) (cs : List (Result ValueRef RowError)) (values : Row) → AreBound cs values
    → IfOk r (λ count. (values : Row) → AreBound cs values → Executes sql values old new (Ok count)) → IfOk r (λ count. Executes sql values old new (Ok count))
runs_with (Ok count) sql old new cs values are h = h values are
runs_with (Err e) sql old new cs values are h = tt
