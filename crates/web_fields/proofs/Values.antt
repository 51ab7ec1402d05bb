-- Members of values, as data.
use Rattle.std.proofs.Common.{◌≡◌, List, [], ◌∷◌, Some, String, Global, sym, ap, slice_get}
use Rattle.serde_json.specs.View.{view, members_view}
use Rattle.serde_json.specs.declared.value.Value.{Value}
use Rattle.web_fields.specs.Kinds.{first_member}

pub first_is : (ms : List (String Global × Value)) (k : String Global) (v : Value) → slice_get ms 0 ≡ Some (k, v) → Some (view v) ≡ first_member (members_view ms)
first_is [] k v e = cc
first_is (m ∷ ms) k v e =
    let h : m ≡ (k, v) = cc in
    ap (λ (x : String Global × Value). Some (view x.1)) (sym h)
