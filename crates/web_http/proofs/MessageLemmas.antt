-- The first message of a text is one, and stays the first whatever follows.
use Rattle.std.proofs.Common.{◌≡◌, ℕ, ◌+◌, ◌-◌, ◌<◌, ◌≤◌, Bool, true, false, List, [], ◌∷◌, ◌++◌, length, get_or, take, drop, map, Result, Ok, Err, refl, sym, ap, ap₂, ◌∙◌, subst, arith, inl, inr, take-append-drop, length-append, length-drop, append_assoc, append-nil}
use Rattle.std.specs.List.{flat_map}
use Rattle.std.proofs.lemmas.List.{take_at, get_or_at, take-append-le, get_or_append_left, append_cancel_left}
use Rattle.httparse.specs.Grammar.{LineEnd, crlf, lf, print_end, print_blank, print_version, print_field, RequestHead, print_request, ReadsRequest, NeverHasRequest}
use Rattle.httparse.proofs.GrammarLemmas.{ReadsRequest-append, request_unique}
use Rattle.web_http.specs.declared.fault.FrameFault.{FrameFault}
use Rattle.web_http.specs.Heads.{EndsLine, Settles, HasHead, HasBadHead, Undecided}
use Rattle.web_http.specs.Messages.{Message, fields_of, check_fields, message_of, Takes, Faults, closes, Messages, Reads, AreLast, whole}

-- ---- heads

pub HasHead-append : (bytes : List ℕ) (h : RequestHead) (after more : List ℕ) → HasHead bytes h after → HasHead (bytes ++ more) h (after ++ more)
HasHead-append bytes h after more x = record { reads = ReadsRequest-append bytes h after more x.reads; small = x.small }

pub HasHead_unique : (bytes : List ℕ) (h k : RequestHead) (a b : List ℕ) → HasHead bytes h a → HasHead bytes k b → (h ≡ k) × (a ≡ b)
HasHead_unique bytes h k a b x y = request_unique bytes h k a b x.reads y.reads

-- a bad head is not the front of a head
pub bad_apart : (bytes : List ℕ) (h : RequestHead) (after : List ℕ) → HasBadHead bytes → HasHead bytes h after → ⊥
bad_apart bytes h after (n, line, never) x =
    never (drop n bytes) h after (subst (λ (t : List ℕ). ReadsRequest t h after) (sym (take-append-drop n bytes)) x.reads)

end_feed : (e : LineEnd) → (front : List ℕ) × (print_end e ≡ front ++ 10 ∷ [])
end_feed crlf = (13 ∷ [], refl)
end_feed lf = ([], refl)

-- a head ends in a line feed
pub head_feed : (h : RequestHead) → (front : List ℕ) × (print_request h ≡ front ++ 10 ∷ [])
unfolding print_request
head_feed h =
    let start = print_blank h.blank ++ h.method ++ 32 ∷ h.target ++ 32 ∷ print_version h.minor ++ print_end h.line_end in
    let lines = flat_map print_field h.fields in
    let e = end_feed h.last in (
      start ++ (lines ++ e.0),
      ap (λ (t : List ℕ). start ++ (lines ++ t)) e.1
          ∙ ap (λ (t : List ℕ). start ++ t) (sym (append_assoc lines e.0 (10 ∷ [])))
          ∙ sym (append_assoc start (lines ++ e.0) (10 ∷ [])),
    )

-- the lines of a head settle
pub head_settles : (bytes : List ℕ) (h : RequestHead) (after : List ℕ) → HasHead bytes h after
    → EndsLine bytes (length (print_request h)) × Settles (take (length (print_request h)) bytes)
head_settles bytes h after x =
    let f = head_feed h in
    let size : length (print_request h) ≡ length f.0 + 1 = ap length f.1 ∙ length-append f.0 (10 ∷ []) in
    let is : bytes ≡ print_request h ++ after = x.reads.1 in
    let long = ap length is ∙ length-append (print_request h) after in
    let small = x.small in
    let at : length (print_request h) - 1 ≡ length f.0 = omega arith in
    let cut : take (length (print_request h)) bytes ≡ print_request h = ap (take (length (print_request h))) is ∙ take_at (print_request h) after _ refl in
    let feed : get_or bytes (length (print_request h) - 1) 0 ≡ 10 =
    ap₂ (λ (t : List ℕ) (i : ℕ). get_or t i 0) (is ∙ ap (λ (t : List ℕ). t ++ after) f.1 ∙ append_assoc f.0 (10 ∷ []) after) at ∙ get_or_at f.0 10 after 0 (length f.0) refl in (
      record { some = omega arith; here = omega arith; small = small; feed = feed },
      inl (h, (x.reads.0, cut ∙ sym (append-nil (print_request h)))),
    )

pub undecided_apart : (bytes : List ℕ) (h : RequestHead) (after : List ℕ) → Undecided bytes → HasHead bytes h after → ⊥
undecided_apart bytes h after none x = let s = head_settles bytes h after x in none _ s.0 s.1

-- ---- messages

abbrev ok_of : ℕ → Result ℕ FrameFault
ok_of n = Ok n

same_ok : {a b : ℕ} → ok_of a ≡ ok_of b → a ≡ b
same_ok e = cc

cut_same : (a b r q : List ℕ) → a ++ r ≡ b ++ q → length a ≡ length b → (a ≡ b) × (r ≡ q)
cut_same a b r q e same =
    let front : a ≡ b = sym (take_at a r (length b) same) ∙ ap (take (length b)) e ∙ take_at b q (length b) refl in
    (front, append_cancel_left b r q (ap (λ (t : List ℕ). t ++ r) (sym front) ∙ e))

pub Takes_unique : (bytes : List ℕ) (m n : Message) (r q : List ℕ) → Takes bytes m r → Takes bytes n q → (m ≡ n) × (r ≡ q)
Takes_unique bytes m n r q x y =
    let same = HasHead_unique bytes x.head y.head x.after y.after x.reads y.reads in
    let size : length m.body ≡ length n.body = same_ok (sym x.fits ∙ ap (λ (h : RequestHead). check_fields (fields_of h)) same.0 ∙ y.fits) in
    let cut = cut_same m.body n.body r q (sym x.body ∙ same.1 ∙ y.body) size in
    (x.is ∙ ap₂ message_of same.0 cut.0 ∙ sym y.is, cut.1)

pub Takes-append : (bytes : List ℕ) (m : Message) (rest more : List ℕ) → Takes bytes m rest → Takes (bytes ++ more) m (rest ++ more)
Takes-append bytes m rest more x = record {
  head = x.head;
  after = x.after ++ more;
  reads = HasHead-append bytes x.head x.after more x.reads;
  fits = x.fits;
  body = ap (λ (t : List ℕ). t ++ more) x.body ∙ append_assoc m.body rest more;
  is = x.is;
}

-- a message takes at least one byte
pub Takes_shorter : (bytes : List ℕ) (m : Message) (rest : List ℕ) → Takes bytes m rest → length rest < length bytes
Takes_shorter bytes m rest x =
    let s = head_settles bytes x.head x.after x.reads in
    let some = s.0.some in
    omega (arith, ap length x.reads.reads.1, length-append (print_request x.head) x.after, ap length x.body, length-append m.body rest)

-- a message and a fault do not both stand at the front
pub apart : (bytes : List ℕ) (m : Message) (rest : List ℕ) (f : FrameFault) → Takes bytes m rest → Faults bytes f → ⊥
apart bytes m rest f x y = elim y [
  | inl bad ↦ bad_apart bytes x.head x.after bad.0 x.reads
  | inr (inl long) ↦ undecided_apart bytes x.head x.after long.0.1 x.reads
  | inr (inr field) ↦
      let same = HasHead_unique bytes x.head field.0 x.after field.1 x.reads field.2 in
      let both : ok_of (length m.body) ≡ Err f = sym x.fits ∙ ap (λ (h : RequestHead). check_fields (fields_of h)) same.0 ∙ field.3 in
      cc
]

pub bad_or_undecided : (bytes : List ℕ) → HasBadHead bytes → Undecided bytes → ⊥
bad_or_undecided bytes (n, line, never) none = none n line (inr never)

abbrev err_of : FrameFault → Result ℕ FrameFault
err_of f = Err f

same_err : {a b : FrameFault} → err_of a ≡ err_of b → a ≡ b
same_err e = cc

pub Faults_unique : (bytes : List ℕ) (f g : FrameFault) → Faults bytes f → Faults bytes g → f ≡ g
Faults_unique bytes f g (inl a) (inl b) = a.1 ∙ sym b.1
Faults_unique bytes f g (inl a) (inr (inl b)) = absurd (bad_or_undecided bytes a.0 b.0.1)
Faults_unique bytes f g (inl a) (inr (inr b)) = absurd (bad_apart bytes b.0 b.1 a.0 b.2)
Faults_unique bytes f g (inr (inl a)) (inl b) = absurd (bad_or_undecided bytes b.0 a.0.1)
Faults_unique bytes f g (inr (inl a)) (inr (inl b)) = a.1 ∙ sym b.1
Faults_unique bytes f g (inr (inl a)) (inr (inr b)) = absurd (undecided_apart bytes b.0 b.1 a.0.1 b.2)
Faults_unique bytes f g (inr (inr a)) (inl b) = absurd (bad_apart bytes a.0 a.1 b.0 a.2)
Faults_unique bytes f g (inr (inr a)) (inr (inl b)) = absurd (undecided_apart bytes a.0 a.1 b.0.1 a.2)
Faults_unique bytes f g (inr (inr a)) (inr (inr b)) =
    let same = HasHead_unique bytes a.0 b.0 a.1 b.1 a.2 b.2 in
    same_err (sym a.3 ∙ ap (λ (h : RequestHead). check_fields (fields_of h)) same.0 ∙ b.3)

EndsLine-append : (bytes more : List ℕ) (n : ℕ) → EndsLine bytes n → EndsLine (bytes ++ more) n
EndsLine-append bytes more n x =
    let some = x.some in
    let here = x.here in
    record {
      some = some;
      here = omega (arith, length-append bytes more);
      small = x.small;
      feed = get_or_append_left bytes more 0 (n - 1) (omega arith) ∙ x.feed;
    }

pub EndsLine-cut : (bytes more : List ℕ) (n : ℕ) → n ≤ length bytes → EndsLine (bytes ++ more) n → EndsLine bytes n
EndsLine-cut bytes more n here x =
    let some = x.some in
    record {
      some = some;
      here = here;
      small = x.small;
      feed = sym (get_or_append_left bytes more 0 (n - 1) (omega arith)) ∙ x.feed;
    }

pub Faults-append : (bytes more : List ℕ) (f : FrameFault) → Faults bytes f → Faults (bytes ++ more) f
Faults-append bytes more f (inl ((n, line, never), is)) =
    inl ((n, EndsLine-append bytes more n line, subst NeverHasRequest (sym (take-append-le n bytes more line.here)) never), is)
Faults-append bytes more f (inr (inl ((enough, none), is))) =
    inr (inl ((omega (arith, length-append bytes more), λ n line settles. let small = line.small in let here : n ≤ length bytes = omega arith in none n (EndsLine-cut bytes more n here line) (subst Settles (take-append-le n bytes more here) settles)), is))
Faults-append bytes more f (inr (inr (h, after, x, check))) = inr (inr (h, after ++ more, HasHead-append bytes h after more x, check))

-- ---- streams

-- the messages behind a first one are the same
go_on : (m n : Message) (rest rest' : List ℕ) (ms ns : List (Result Message FrameFault)) → m ≡ n → rest ≡ rest'
    → (closes m ≡ true → ms ≡ []) → (closes n ≡ true → ns ≡ []) → (closes m ≡ false → Messages rest ms)
    → (closes n ≡ false → Messages rest' ns) → (Messages rest ms → Messages rest ns → ms ≡ ns)
    → whole m ∷ ms ≡ whole n ∷ ns
go_on m n rest rest' ms ns em er ends ends' goes goes' again = by (closes m) refl
  where
    by : (b : Bool) → closes m ≡ b → whole m ∷ ms ≡ whole n ∷ ns
    by true is = ap₂ (λ (x : Message) (xs : List (Result Message FrameFault)). whole x ∷ xs) em (ends is ∙ sym (ends' (ap closes (sym em) ∙ is)))
    by false is =
        ap₂ (λ (x : Message) (xs : List (Result Message FrameFault)). whole x ∷ xs) em
        (again (goes is) (subst (λ (t : List ℕ). Messages t ns) (sym er) (goes' (ap closes (sym em) ∙ is))))

-- a stream has one reading
pub Messages_unique : (bytes : List ℕ) (ms ns : List (Result Message FrameFault)) → Messages bytes ms → Messages bytes ns → ms ≡ ns
Messages_unique bytes [] [] x y = refl
Messages_unique bytes [] (Ok n ∷ ns) x (rest, takes, ends, goes) = absurd (x.message n rest takes)
Messages_unique bytes [] (Err g ∷ ns) x (fault, ends) = absurd (x.fault g fault)
Messages_unique bytes (Ok m ∷ ms) [] (rest, takes, ends, goes) y = absurd (y.message m rest takes)
Messages_unique bytes (Ok m ∷ ms) (Err g ∷ ns) (rest, takes, ends, goes) (fault, last) = absurd (apart bytes m rest g takes fault)
Messages_unique bytes (Err f ∷ ms) [] (fault, last) y = absurd (y.fault f fault)
Messages_unique bytes (Err f ∷ ms) (Ok n ∷ ns) (fault, last) (rest, takes, ends, goes) = absurd (apart bytes n rest f takes fault)
Messages_unique bytes (Err f ∷ ms) (Err g ∷ ns) (fault, last) (fault', last') =
    ap₂ (λ (x : FrameFault) (xs : List (Result Message FrameFault)). Err x ∷ xs) (Faults_unique bytes f g fault fault') (last ∙ sym last')
Messages_unique bytes (Ok m ∷ ms) (Ok n ∷ ns) (rest, takes, ends, goes) (rest', takes', ends', goes') =
    let same = Takes_unique bytes m n rest rest' takes takes' in
    go_on m n rest rest' ms ns same.0 same.1 ends ends' goes goes' (λ a b. Messages_unique rest ms ns a b)

-- ---- the shortest lines that settle

pub none_shorter : (bytes : List ℕ) (h : RequestHead) (after : List ℕ) → HasHead bytes h after
    → (k : ℕ) → k < length (print_request h) → EndsLine bytes k → Settles (take k bytes) → ⊥
none_shorter bytes h after x k short line (inl (g, reads)) =
    let whole = subst (λ (t : List ℕ). ReadsRequest t g ([] ++ drop k bytes)) (take-append-drop k bytes) (ReadsRequest-append (take k bytes) g [] (drop k bytes) reads) in
    let same = request_unique bytes g h (drop k bytes) after whole x.reads in
    let size = ap length same.1 in
    let long = ap length x.reads.1 ∙ length-append (print_request h) after in
    let here = line.here in
    absurd (omega (arith, length-drop k bytes))
none_shorter bytes h after x k short line (inr never) =
    never (drop k bytes) h after (subst (λ (t : List ℕ). ReadsRequest t h after) (sym (take-append-drop k bytes)) x.reads)

-- with some lines no head begins: so no lines are a head
pub no_head_beside : (bytes : List ℕ) → HasBadHead bytes → (k : ℕ) (h : RequestHead) → ReadsRequest (take k bytes) h [] → ⊥
no_head_beside bytes (n, line, never) k h reads =
    let whole = subst (λ (t : List ℕ). ReadsRequest t h ([] ++ drop k bytes)) (take-append-drop k bytes) (ReadsRequest-append (take k bytes) h [] (drop k bytes) reads) in
    never (drop n bytes) h _ (subst (λ (t : List ℕ). ReadsRequest t h (drop k bytes)) (sym (take-append-drop n bytes)) whole)

-- ---- a stream in two pieces

not_both : (b : Bool) → b ≡ true → b ≡ false → ⊥
not_both b yes_it_is no_it_is_not = cc

pub Messages_cut : (a b rest : List ℕ) (ms : List Message) (items : List (Result Message FrameFault)) → Reads a ms rest → Messages (rest ++ b) items → Messages (a ++ b) (map whole ms ++ items)
Messages_cut a b rest [] items same read = subst (λ (t : List ℕ). Messages (t ++ b) items) (sym same) read
Messages_cut a b rest (m ∷ ms) items (mid, takes, open_after, goes) read = (
  mid ++ b,
  Takes-append a m mid b takes,
  λ ends. absurd (not_both (closes m) ends open_after),
  λ _. Messages_cut mid b rest ms items goes read,
)

pub Messages_ended : (a b : List ℕ) (items : List (Result Message FrameFault)) → Messages a items → AreLast items → Messages (a ++ b) items
Messages_ended a b [] read last = absurd last
Messages_ended a b (Err f ∷ []) (fault, end) last = (Faults-append a b f fault, end)
Messages_ended a b (Err f ∷ x ∷ items) (fault, end) last = absurd (cc)
Messages_ended a b (Ok m ∷ []) (rest, takes, ends, goes) last = (rest ++ b, Takes-append a m rest b takes, ends, λ open_after. absurd (not_both (closes m) last open_after))
Messages_ended a b (Ok m ∷ x ∷ items) (rest, takes, ends, goes) last =
    (rest ++ b, Takes-append a m rest b takes, ends, λ open_after. Messages_ended rest b (x ∷ items) (goes open_after) last)
