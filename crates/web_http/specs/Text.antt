-- The texts of answers.
use Rattle.std.specs.Prelude.{ℕ, Bool, true, not, List, [], ◌∷◌, ◌++◌, length, Option, Some, None, unwrap_or, if◌then◌else◌, ◌==◌, codes, decimal}
use Rattle.std.specs.List.{concat}
use Rattle.http.specs.StatusCode.{code_digits, reason_phrase}
use Rattle.base_values.specs.declared.answer.Methods.{Methods}
use Rattle.base_values.specs.declared.answer.Answer.{Answer}
use Rattle.base_values.specs.declared.answer.Answer.TheVariants.{Decided, Unavailable}
use Rattle.web_http.specs.declared.fault.FrameFault.{FrameFault}
use Rattle.web_http.specs.declared.fault.FrameFault.TheVariants.{BadHead, BodyTooLarge, HeadTooLarge, UnknownCoding}

-- the text where the test holds, and nothing elsewhere
abbrev pub when : Bool → List ℕ → List ℕ
when holds text = if holds then text else []

-- the phrase of a status, empty where it has none
unfoldable pub phrase : ℕ → List ℕ
phrase status = unwrap_or (reason_phrase status) []

-- the first line
abbrev pub status_line : ℕ → List ℕ
status_line status = concat (codes "HTTP/1.1 " ∷ code_digits status ∷ codes " " ∷ phrase status ∷ codes "\r\n" ∷ [])

-- all answers but a 204 have a content
abbrev pub has_content : ℕ → Bool
has_content status = not (status == 204)

-- a content is JSON, of so many bytes
abbrev pub content_fields : ℕ → ℕ → List ℕ
content_fields status size =
    when (has_content status) (concat (codes "Content-Type: application/json\r\nContent-Length: " ∷ decimal size ∷ codes "\r\n" ∷ []))

-- a 401 says how to come in
abbrev pub challenge : ℕ → List ℕ
challenge status = when (status == 401) (codes "WWW-Authenticate: Token\r\n")

-- the names, with a comma and a space between each two
abbrev pub names_listed : List (List ℕ) → List ℕ
names_listed [] = []
names_listed (x ∷ []) = x
names_listed (x ∷ y ∷ ys) = x ++ (codes ", " ++ names_listed (y ∷ ys))

-- the name alone where the test holds, and else none
abbrev pub name_if : Bool → List ℕ → List (List ℕ)
name_if has name = if has then name ∷ [] else []

-- the names of the methods
abbrev pub method_names : Methods → List (List ℕ)
method_names m =
    name_if m.get (codes "GET") ++ name_if m.post (codes "POST") ++ name_if m.patch (codes "PATCH") ++ name_if m.delete (codes "DELETE")

-- which methods the path has, where that is told
abbrev pub allow_field : Option Methods → List ℕ
allow_field None = []
allow_field (Some m) = concat (codes "Allow: " ∷ names_listed (method_names m) ∷ codes "\r\n" ∷ [])

-- the connection ends after the answer
abbrev pub close_field : Bool → List ℕ
close_field closes = when closes (codes "Connection: close\r\n")

-- the body, which a 204 lacks
abbrev pub content : ℕ → List ℕ → List ℕ
content status body = when (has_content status) body

-- the most bytes of the head of an answer
abbrev pub head_room : ℕ
head_room = 256

-- the head of an answer, with the empty line that ends it
unfoldable pub head_text : ℕ → Option Methods → ℕ → Bool → List ℕ
head_text status allow size closes = concat (
    status_line status
    ∷ content_fields status size
    ∷ challenge status
    ∷ allow_field allow
    ∷ close_field closes
    ∷ codes "\r\n"
    ∷ [])

-- the text of an answer: its status, the methods of the path where they are told, its body, and whether the connection ends after it
unfoldable pub answer_text : ℕ → Option Methods → List ℕ → Bool → List ℕ
answer_text status allow body closes = head_text status allow (length body) closes ++ content status body

-- the body of a 503
abbrev pub unavailable_body : List ℕ
unavailable_body = codes "{\"detail\":\"Service unavailable.\"}"

-- the text of an answer, and whether the connection ends after it
abbrev pub text : Answer → Bool → List ℕ
text (Decided t) closes = answer_text t.status t.allow t.body closes
text Unavailable closes = answer_text 503 None unavailable_body closes

-- the status of the answer to a fault of framing
abbrev pub fault_status : FrameFault → ℕ
fault_status BadHead = 400
fault_status BodyTooLarge = 413
fault_status HeadTooLarge = 431
fault_status UnknownCoding = 501

-- the body of the answer to a fault of framing
abbrev pub fault_body : FrameFault → List ℕ
fault_body BadHead = codes "{\"detail\":\"Bad request head.\"}"
fault_body BodyTooLarge = codes "{\"detail\":\"Body too large.\"}"
fault_body HeadTooLarge = codes "{\"detail\":\"Request head too large.\"}"
fault_body UnknownCoding = codes "{\"detail\":\"Transfer-Encoding is not supported.\"}"

-- the text of a fault, after which the connection always ends
abbrev pub fault_text : FrameFault → List ℕ
fault_text f = answer_text (fault_status f) None (fault_body f) true
