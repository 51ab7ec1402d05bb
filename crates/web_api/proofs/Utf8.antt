-- The route of a path, by whether it is UTF-8.
use Rattle.std.proofs.Common.{◌≡◌, ℕ, true, false, cond, List, None, refl}
use Rattle.std.specs.Str.{IsUtf8, is_utf8}
use Rattle.std.proofs.lemmas.Str.{IsUtf8-from_is_utf8, is_utf8-from_IsUtf8}
use Rattle.matchit.specs.Seek.{first}
use Rattle.web_api.specs.Routes.{all_routes, route_found, route_of}

pub route_known : (path text : List ℕ) → text ≡ path → IsUtf8 path → route_found (first all_routes text) ≡ route_of path
unfolding route_of
route_known path text e u = rw (e, is_utf8-from_IsUtf8 path u) refl

pub route_unknown : (path : List ℕ) → ¬ (IsUtf8 path) → None ≡ route_of path
unfolding route_of
route_unknown path broken =
    elim (is_utf8 path) as (λ b. is_utf8 path ≡ b → None ≡ cond b (route_found (first all_routes path)) None) [ true ↦ λ e. absurd (broken (IsUtf8-from_is_utf8 path e)) | false ↦ λ e. refl ] refl
