-- How a path with an id or code in it is sought among the rows.
use Rattle.std.proofs.Common.{◌≡◌, ◌≢◌, ℕ, zero, suc, ◌-◌, ◌<◌, ◌==◌, List, [], ◌∷◌, ◌++◌, length, Option, Some, None, Bool, true, false, cond, ltb, refl, ap, ◌∙◌, arith}
use Rattle.std.proofs.lemmas.Bool.Decides.{nat_tests}
use Rattle.std.proofs.lemmas.List.{length-append}
use Rattle.std.proofs.Math.Seq.{drop-append_seam}
use Rattle.matchit.specs.Rows.{param_token, catch_all_token}
use Rattle.matchit.specs.Seek.{seek, param_step, step, own, or_else, segment, has_slash, longest_from, longest_suffix, cuts, with_suffix}
use Rattle.matchit.specs.Level.{IsText}
use Rattle.matchit.specs.Router.{RouteOf}
use Rattle.web_api.specs.declared.routes.Route.{Route}
use Rattle.web_api.specs.Routes.{Rows, route_found}
use Rattle.web_api.specs.Table.{has}

after_none : (path : List ℕ) → (param_step {K = RouteOf Route} [] path).1 ≡ []
unfolding param_step
after_none path = elim (has_slash path) as (λ v. (cond {A = ℕ × Rows} v (0, []) (length path, [])).1 ≡ []) [ true ↦ refl | false ↦ refl ]

-- nothing is found among no rows
pub none_there : (skip : ℕ) (path : List ℕ) → seek {K = RouteOf Route} skip [] path ≡ None
unfolding seek
none_there skip [] = refl
none_there (suc skip) (b ∷ path) = none_there skip path
none_there zero (b ∷ path) = simp (none_there 0 path, after_none (b ∷ path), none_there ((param_step {K = RouteOf Route} [] (b ∷ path)).0 - 1) path)

-- what is skipped isn't looked at
pub skipped : (rows : Rows) (front path : List ℕ) → seek (length front) rows (front ++ path) ≡ seek 0 rows path
unfolding seek
skipped rows [] path = refl
skipped rows (b ∷ front) path = skipped rows front path

-- the rows that go on with these bytes, with the bytes gone
abbrev pub steps : List ℕ → Rows → Rows
steps [] rows = rows
steps (b ∷ front) rows = steps front (step b rows)

-- what is found along bytes that stand for themselves is found
pub along : (front path : List ℕ) (rows : Rows) (route : Route) → route_found (seek 0 (steps front rows) path) ≡ Some route → route_found (seek 0 rows (front ++ path)) ≡ Some route
unfolding seek
along [] path rows route h = h
along (b ∷ front) path rows route h = by (seek 0 (step b rows) (front ++ path)) refl (along front path (step b rows) route h)
  where
    by : (o : Option (RouteOf Route)) → seek 0 (step b rows) (front ++ path) ≡ o → route_found o ≡ Some route → route_found (seek 0 rows (b ∷ (front ++ path))) ≡ Some route
    by (Some r) e is = rw e is
    by None e is = cc

segment_step : (b : ℕ) (id rest : List ℕ) (v : Bool) → (b == 47) ≡ v → has 47 (b ∷ id) ≡ false
    → (has 47 id ≡ false → segment (id ++ 47 ∷ rest) ≡ id ++ 47 ∷ []) → segment (b ∷ (id ++ 47 ∷ rest)) ≡ b ∷ (id ++ 47 ∷ [])
segment_step b id rest true e h again = let t : has 47 (b ∷ id) ≡ true = rw e refl in cc
segment_step b id rest false e h again = let n : has 47 id ≡ false = rw e at h in rw e (ap (λ s. b ∷ s) (again n))

-- the first segment of a text with no slash, and one behind it
segment_of : (id rest : List ℕ) → has 47 id ≡ false → segment (id ++ 47 ∷ rest) ≡ id ++ 47 ∷ []
segment_of [] rest h = refl
segment_of (b ∷ id) rest h = segment_step b id rest (b == 47) refl h (λ n. segment_of id rest n)

-- rows with a slash in front of each
abbrev pub slashed : Rows → Rows
slashed [] = []
slashed ((t, r) ∷ rows) = (47 ∷ t, r) ∷ slashed rows

-- rows with the first token of each gone
abbrev pub shorn : Rows → Rows
shorn [] = []
shorn (([], r) ∷ rows) = ([], r) ∷ shorn rows
shorn ((x ∷ t, r) ∷ rows) = (t, r) ∷ shorn rows

all_slashed : (rows : Rows) → with_suffix (47 ∷ []) (slashed rows) ≡ slashed rows
all_slashed [] = refl
all_slashed ((t, r) ∷ rows) = ap (λ x. (47 ∷ t, r) ∷ x) (all_slashed rows)

longest_stays : (seg : List ℕ) (rows : Rows) → longest_from seg (47 ∷ []) (slashed rows) ≡ 47 ∷ []
longest_stays seg [] = refl
longest_stays seg ((t, r) ∷ rows) = longest_stays seg rows

cut_off : (b : ℕ) (id : List ℕ) → cuts (b ∷ (id ++ 47 ∷ [])) (47 ∷ []) ≡ true
cut_off b id =
    let before : length (b ∷ (id ++ 47 ∷ [])) - 1 ≡ length (b ∷ id) = omega (arith, length-append id (47 ∷ [])) in
    let long : ltb 1 (length (b ∷ (id ++ 47 ∷ []))) ≡ true = grind (arith, nat_tests, length-append) in
    rw (long, before, drop-append_seam (b ∷ id) (47 ∷ [])) refl

-- the slash is the longest suffix of rows that go on with one
longest_slash : (b : ℕ) (id : List ℕ) (rows : Rows) → 0 < length rows → longest_suffix (b ∷ (id ++ 47 ∷ [])) (slashed rows) ≡ 47 ∷ []
longest_slash b id [] some = absurd (omega arith)
longest_slash b id ((t, r) ∷ rows) some = ap (λ cut. longest_from (b ∷ (id ++ 47 ∷ [])) (cond cut (47 ∷ []) []) (slashed rows)) (cut_off b id) ∙ longest_stays (b ∷ (id ++ 47 ∷ [])) rows

stepped : (seg path : List ℕ) (rows : Rows) → segment path ≡ seg → longest_suffix seg rows ≡ 47 ∷ [] → with_suffix (47 ∷ []) rows ≡ rows
    → param_step rows path ≡ (length seg - 1, rows)
unfolding param_step
stepped seg path rows s l w = rw (s, l, w) refl

-- an id takes the path up to its slash
id_taken : (b : ℕ) (id rest : List ℕ) (rows : Rows) → has 47 (b ∷ id) ≡ false → 0 < length rows
    → param_step (slashed rows) (b ∷ (id ++ 47 ∷ rest)) ≡ (suc (length id), slashed rows)
id_taken b id rest rows h some =
    let n : length (b ∷ (id ++ 47 ∷ [])) - 1 ≡ suc (length id) = omega (arith, length-append id (47 ∷ [])) in
    stepped (b ∷ (id ++ 47 ∷ [])) (b ∷ (id ++ 47 ∷ rest)) (slashed rows) (segment_of (b ∷ id) rest h) (longest_slash b id rows some) (all_slashed rows)
    ∙ ap (λ k. (k, slashed rows)) n

kept : (o other : Option (RouteOf Route)) (route : Route) → route_found o ≡ Some route → route_found (or_else o other) ≡ Some route
kept (Some r) other route e = e
kept None other route e = cc

-- behind an id the rows go on at its slash
pub behind_id : (b : ℕ) (id rest : List ℕ) (rows more : Rows) (route : Route) → has 47 (b ∷ id) ≡ false
    → seek 0 (step b rows) (id ++ 47 ∷ rest) ≡ None → step param_token rows ≡ slashed more → 0 < length more
    → route_found (seek 0 (slashed more) (47 ∷ rest)) ≡ Some route
    → route_found (seek 0 rows (b ∷ (id ++ 47 ∷ rest))) ≡ Some route
unfolding seek
behind_id b id rest rows more route h none wild some is =
    let n : suc (length id) - 1 ≡ length id = omega arith in
    rw (none, wild, id_taken b id rest more h some, n, skipped (slashed more) id (47 ∷ rest)) (kept (seek 0 (slashed more) (47 ∷ rest)) (own (step catch_all_token rows)) route is)

-- nothing is found beyond a row that is no path's front
rest_none : (b : ℕ) (path : List ℕ)
    → or_else (seek ((param_step {K = RouteOf Route} [] (b ∷ path)).0 - 1) (param_step {K = RouteOf Route} [] (b ∷ path)).1 path) None ≡ None
rest_none b path = simp (after_none (b ∷ path), none_there ((param_step {K = RouteOf Route} [] (b ∷ path)).0 - 1) path)

other_step : (x b : ℕ) (w path : List ℕ) (r : RouteOf Route) (v : Bool) → (x == b) ≡ v → x < 256 → (x ∷ w) ≢ (b ∷ path)
    → (w ≢ path → seek 0 ((w, r) ∷ []) path ≡ None) → seek 0 ((x ∷ w, r) ∷ []) (b ∷ path) ≡ None
unfolding seek
other_step x b w path r true e less n again =
    let one : (x == param_token) ≡ false = grind (arith, nat_tests) in
    let all : (x == catch_all_token) ≡ false = grind (arith, nat_tests) in
    let same : x ≡ b = grind (arith, nat_tests) in
    let m : w ≢ path = λ q. n (cc) in
    rw (e, one, all, again m) (rest_none b path)
other_step x b w path r false e less n again =
    let one : (x == param_token) ≡ false = grind (arith, nat_tests) in
    let all : (x == catch_all_token) ≡ false = grind (arith, nat_tests) in
    rw (e, one, all) (none_there 0 (b ∷ path))

-- a row of bytes alone is found by its own path only
pub others_path : (w path : List ℕ) (r : RouteOf Route) → IsText w → w ≢ path → seek 0 ((w, r) ∷ []) path ≡ None
unfolding seek
others_path [] [] r t n = absurd (n refl)
others_path [] (b ∷ path) r t n = none_there 0 (b ∷ path)
others_path (x ∷ w) [] r t n = refl
others_path (x ∷ w) (b ∷ path) r t n = other_step x b w path r (x == b) refl t.0 n (λ m. others_path w path r t.1 m)
