-- That the path of a page reads back as that page of that list.
use Rattle.std.proofs.Common.{◌≡◌, ◌≢◌, ℕ, ◌<◌, ◌≤◌, ◌==◌, ◌^◌, List, [], ◌∷◌, ◌++◌, length, Some, true, false, nat_lt, nat_le, refl, ap, ◌∙◌, arith, codes, All, lit<}
use Rattle.std.specs.List.{list_all}
use Rattle.std.specs.Fmt.{decimal}
use Rattle.std.specs.Char.{is_ascii_digit}
use Rattle.std.specs.Str.Parse.{AllDigits}
use Rattle.std.specs.Str.Lossy.{utf8_lossy}
use Rattle.std.proofs.lemmas.Bool.Decides.{nat_tests}
use Rattle.std.proofs.lemmas.Fmt.{decimal_is_IsNumeral, IsAscii-decimal, length-decimal-le}
use Rattle.std.proofs.lemmas.List.{append_assoc}
use Rattle.std.proofs.lemmas.List.Elements.{All-nil, All-cons}
use Rattle.std.proofs.lemmas.List.Sums.{list_all-from_AllPass}
use Rattle.std.proofs.lemmas.Str.{IsUtf8-from_ascii, utf8_lossy-IsUtf8}
use Rattle.std.proofs.lemmas.Str.Parse.{digit_at}
use Rattle.form_urlencoded.specs.Form.{raw_pairs, split_once, IsPlain}
use Rattle.form_urlencoded.proofs.FormLemmas.{raw_pairs_first, raw_pairs-nil, split_once_before_at, split_once_after_at, split_once_before_none, split_once_after_none, decode_plain}
use Rattle.base_values.specs.Digits.{number_of}
use Rattle.model_commands.specs.declared.requests.Resource.{Resource}
use Rattle.model_commands.specs.declared.requests.Resource.TheVariants as resources
use Rattle.web_responses.specs.Pages.{page_path, resource_path}
use Rattle.web_api.specs.declared.path.Target.TheVariants as targets
use Rattle.web_api.specs.declared.routes.Route.{Route}
use Rattle.web_api.specs.declared.routes.Route.TheVariants as routes
use Rattle.web_api.specs.Page.{IsNamed, text_decoded, page_in, page_of}
use Rattle.web_api.specs.Path.{◌>>=◌, in_shop, query_of, target_by, target_of}
use Rattle.matchit.specs.Level.{IsText}
use Rattle.web_api.specs.Table.{IsName, IsSegment, has, path_with}
use Rattle.web_api.proofs.ShopPaths.{has_append, named_with_query, query_behind, shop_unmarked}

-- what holds of each digit
each_digit : (P : ℕ → Type 0) → ((c : ℕ) → 48 ≤ c → c ≤ 57 → P c) → (ds : List ℕ) → AllDigits 10 ds → All P ds
each_digit P is [] h = All-nil P
each_digit P is (c ∷ ds) h =
    let digit = digit_at (c ∷ []) 0 (h.0, tt) (lit< tt) in
    All-cons P c ds (is c digit.0 digit.1) (each_digit P is ds h.1)

-- the text of a number of at most 18 digits reads back
number_back : (n : ℕ) → n < 10 ^ 18 → number_of (decimal n) ≡ Some n
number_back n h =
    let wide : n < 2 ^ 64 = omega arith in
    let numeral = decimal_is_IsNumeral n wide in
    let some : nat_lt 0 (length (decimal n)) ≡ true = let s : 0 < length (decimal n) = numeral.0.0 in grind (arith, nat_tests) in
    let few : nat_le (length (decimal n)) 18 ≡ true = let s : length (decimal n) ≤ 18 = length-decimal-le 18 n (lit< tt) h wide in grind (arith, nat_tests) in
    let digits : list_all is_ascii_digit (decimal n) ≡ true =
    list_all-from_AllPass is_ascii_digit (decimal n) (each_digit (λ c. is_ascii_digit c ≡ true) (λ c low high. grind (arith, nat_tests)) (decimal n) numeral.0.1) in
    rw (some, few, digits) (ap Some numeral.1)

decoded_back : (n : ℕ) → n < 2 ^ 64 → text_decoded (decimal n) ≡ decimal n
decoded_back n h =
    let plain : All IsPlain (decimal n) = each_digit IsPlain (λ c low high. ((λ e. omega arith), (λ e. omega arith))) (decimal n) (decimal_is_IsNumeral n h).0.1 in
    ap utf8_lossy (decode_plain (decimal n) plain) ∙ utf8_lossy-IsUtf8 (decimal n) (IsUtf8-from_ascii (decimal n) (IsAscii-decimal n h))

word_plain : All IsPlain (codes "page")
word_plain =
    All-cons IsPlain 112 (codes "age") ((λ e. omega arith), (λ e. omega arith)) (All-cons IsPlain 97 (codes "ge") ((λ e. omega arith), (λ e. omega arith))
    (All-cons IsPlain 103 (codes "e") ((λ e. omega arith), (λ e. omega arith)) (All-cons IsPlain 101 [] ((λ e. omega arith), (λ e. omega arith)) (All-nil IsPlain))))

word_back : text_decoded (codes "page") ≡ codes "page"
unfolding lib.Utf8.encode
word_back = ap utf8_lossy (decode_plain (codes "page") word_plain) ∙ utf8_lossy-IsUtf8 (codes "page") (codes "page", (refl, refl))

no_ampersand : (n : ℕ) → n < 2 ^ 64 → All (λ b. b ≢ 38) (codes "page=" ++ decimal n)
no_ampersand n h =
    All-cons (λ b. b ≢ 38) 112 (codes "age=" ++ decimal n) (λ e. omega arith) (All-cons (λ b. b ≢ 38) 97 (codes "ge=" ++ decimal n) (λ e. omega arith)
    (All-cons (λ b. b ≢ 38) 103 (codes "e=" ++ decimal n) (λ e. omega arith) (All-cons (λ b. b ≢ 38) 101 (codes "=" ++ decimal n) (λ e. omega arith)
    (All-cons (λ b. b ≢ 38) 61 (decimal n) (λ e. omega arith) (each_digit (λ b. b ≢ 38) (λ b small large e. omega arith) (decimal n) (decimal_is_IsNumeral n h).0.1)))))

no_equals : All (λ b. b ≢ 61) (codes "page")
no_equals =
    All-cons (λ b. b ≢ 61) 112 (codes "age") (λ e. omega arith) (All-cons (λ b. b ≢ 61) 97 (codes "ge") (λ e. omega arith)
    (All-cons (λ b. b ≢ 61) 103 (codes "e") (λ e. omega arith) (All-cons (λ b. b ≢ 61) 101 [] (λ e. omega arith) (All-nil (λ b. b ≢ 61)))))

pair_is : (pair : List ℕ × List ℕ) (name value : List ℕ) → pair.0 ≡ name → pair.1 ≡ value → pair ≡ (name, value)
pair_is pair name value n v = ap (λ x. (x, pair.1)) n ∙ ap (λ x. (name, x)) v

-- the query of a page has one pair
one_pair : (n : ℕ) → n < 2 ^ 64 → raw_pairs (codes "page=" ++ decimal n) ≡ (codes "page", decimal n) ∷ []
one_pair n h =
    let query : List ℕ = codes "page=" ++ decimal n in
    let whole : (split_once 38 query).0 ≡ query = split_once_before_none 38 query (no_ampersand n h) in
    let last : (split_once 38 query).1 ≡ [] = split_once_after_none 38 query (no_ampersand n h) in
    let pair : split_once 61 query ≡ (codes "page", decimal n) =
    pair_is (split_once 61 query) (codes "page") (decimal n) (split_once_before_at 61 (codes "page") (decimal n) no_equals) (split_once_after_at 61 (codes "page") (decimal n) no_equals) in
    raw_pairs_first query (rw whole (omega arith)) ∙ ap (λ front. split_once 61 front ∷ raw_pairs (split_once 38 query).1) whole
    ∙ ap (λ rest. split_once 61 query ∷ raw_pairs rest) last ∙ ap (λ rest. split_once 61 query ∷ rest) raw_pairs-nil ∙ ap (λ p. p ∷ []) pair

pair_read : (n : ℕ) → n < 10 ^ 18 → page_in ((codes "page", decimal n) ∷ []) ≡ Some n
pair_read n h = let wide : n < 2 ^ 64 = omega arith in rw (word_back, decoded_back n wide) (number_back n h)

path_grouped : (organizer event : List ℕ) (resource : Resource) (number : ℕ)
    → page_path organizer event resource number ≡ in_shop organizer event (resource_path resource) ++ 63 ∷ (codes "page=" ++ decimal number)
unfolding page_path
path_grouped organizer event resource number = append_assoc (in_shop organizer event (resource_path resource)) (codes "?page=") (decimal number)

-- digits lack what is no digit
lacks : (byte : ℕ) → ((c : ℕ) → 48 ≤ c → c ≤ 57 → (c == byte) ≡ false) → (ds : List ℕ) → AllDigits 10 ds → has byte ds ≡ false
lacks byte is [] h = refl
lacks byte is (c ∷ ds) h =
    let digit = digit_at (c ∷ []) 0 (h.0, tt) (lit< tt) in
    rw (is c digit.0 digit.1) (lacks byte is ds h.1)

number_lacks : (byte n : ℕ) → n < 2 ^ 64 → ((c : ℕ) → 48 ≤ c → c ≤ 57 → (c == byte) ≡ false) → has byte (decimal n) ≡ false
number_lacks byte n h is = lacks byte is (decimal n) (decimal_is_IsNumeral n h).0.1

-- the number of a check-in list, between what stands before it and behind it
between_unmarked : (front text back : List ℕ) → has 63 front ≡ false → has 63 text ≡ false → has 63 back ≡ false → has 63 (front ++ text ++ back) ≡ false
between_unmarked front text back f t b = has_append 63 (front ++ text) back (has_append 63 front text f t) b

list_unmarked : (resource : Resource) → IsNamed resource → has 63 (resource_path resource) ≡ false
list_unmarked resources.Items h = refl
list_unmarked resources.Quotas h = refl
list_unmarked resources.Vouchers h = refl
list_unmarked resources.Carts h = refl
list_unmarked resources.Orders h = refl
list_unmarked resources.WaitingEntries h = refl
list_unmarked resources.CheckinLists h = refl
list_unmarked (resources.Tickets door) h =
    let few : door < 10 ^ 18 = h in
    let wide : door < 2 ^ 64 = omega arith in
    between_unmarked (codes "/checkinlists/") (decimal door) (codes "/positions/") refl (number_lacks 63 door wide (λ c low high. grind (arith, nat_tests))) refl

pub page_back : (organizer event : List ℕ) (resource : Resource) (number : ℕ) → IsNamed resource → has 63 organizer ≡ false → has 63 event ≡ false → number < 10 ^ 18
    → page_of (page_path organizer event resource number) ≡ Some number
unfolding page_of
page_back organizer event resource number named o e h =
    let wide : number < 2 ^ 64 = omega arith in
    let query : query_of (page_path organizer event resource number) ≡ codes "page=" ++ decimal number =
    ap query_of (path_grouped organizer event resource number)
    ∙ query_behind (in_shop organizer event (resource_path resource)) (codes "page=" ++ decimal number) (shop_unmarked organizer event (resource_path resource) o e (list_unmarked resource named)) in
    ap (λ q. page_in (raw_pairs q)) query ∙ ap page_in (one_pair number wide) ∙ pair_read number h

-- a name, for the routes that read none
some_segment : IsSegment (codes "1")
unfolding lib.Utf8.encode
some_segment = record {
  some = lit< tt;
  bytes = (lit< tt, tt);
  utf8 = (codes "1", (refl, refl));
  slash = refl;
  mark = refl;
}

some_name : IsName (codes "1")
some_name = record {
  segment = some_segment;
  other = λ e. let lengths : 1 ≡ 11 = ap length e in omega arith;
}

digits_text : (ds : List ℕ) → AllDigits 10 ds → IsText ds
digits_text [] h = tt
digits_text (c ∷ ds) h =
    let digit = digit_at (c ∷ []) 0 (h.0, tt) (lit< tt) in
    let small : c < 256 = let high : c ≤ 57 = digit.1 in omega arith in
    (small, digits_text ds h.1)

-- a number is a name
number_named : (n : ℕ) → n < 2 ^ 64 → IsName (decimal n)
number_named n h =
    let numeral = decimal_is_IsNumeral n h in
    let b : has 98 (decimal n) ≡ false = number_lacks 98 n h (λ c low high. grind (arith, nat_tests)) in
    record {
      segment = record {
        some = numeral.0.0;
        bytes = digits_text (decimal n) numeral.0.1;
        utf8 = IsUtf8-from_ascii (decimal n) (IsAscii-decimal n h);
        slash = number_lacks 47 n h (λ c low high. grind (arith, nat_tests));
        mark = number_lacks 63 n h (λ c low high. grind (arith, nat_tests));
      };
      other = λ e. let t : has 98 (codes "bulk_create") ≡ false = rw e at b in cc;
    }

-- the path of a list names it, whatever query follows
by_name : (organizer event name query : List ℕ) (route : Route) → IsName name → has 63 organizer ≡ false → has 63 event ≡ false
    → target_of organizer event (in_shop organizer event (path_with name (codes "1") route) ++ 63 ∷ query) ≡ target_by (Some name) route
by_name organizer event name query route n o e = named_with_query organizer event name (codes "1") query route n some_segment o e

list_named : (organizer event query : List ℕ) (resource : Resource) → IsNamed resource → has 63 organizer ≡ false → has 63 event ≡ false
    → target_of organizer event (in_shop organizer event (resource_path resource) ++ 63 ∷ query) ≡ Some (targets.All resource)
list_named organizer event query resources.Items h o e = by_name organizer event (codes "1") query routes.Items some_name o e
list_named organizer event query resources.Quotas h o e = by_name organizer event (codes "1") query routes.Quotas some_name o e
list_named organizer event query resources.Vouchers h o e = by_name organizer event (codes "1") query routes.Vouchers some_name o e
list_named organizer event query resources.Carts h o e = by_name organizer event (codes "1") query routes.CartPositions some_name o e
list_named organizer event query resources.Orders h o e = by_name organizer event (codes "1") query routes.Orders some_name o e
list_named organizer event query resources.WaitingEntries h o e = by_name organizer event (codes "1") query routes.WaitingEntries some_name o e
list_named organizer event query resources.CheckinLists h o e = by_name organizer event (codes "1") query routes.CheckinLists some_name o e
list_named organizer event query (resources.Tickets door) h o e =
    let few : door < 10 ^ 18 = h in
    let wide : door < 2 ^ 64 = omega arith in
    by_name organizer event (decimal door) query routes.Tickets (number_named door wide) o e
    ∙ ap (λ id. id >>= λ n. Some (targets.All (resources.Tickets n))) (number_back door h)

pub list_back : (organizer event : List ℕ) (resource : Resource) (number : ℕ) → IsNamed resource → has 63 organizer ≡ false → has 63 event ≡ false
    → target_of organizer event (page_path organizer event resource number) ≡ Some (targets.All resource)
list_back organizer event resource number h o e =
    ap (target_of organizer event) (path_grouped organizer event resource number) ∙ list_named organizer event (codes "page=" ++ decimal number) resource h o e
