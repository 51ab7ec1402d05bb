-- The words for a request that can't be read.
use Rattle.std.specs.Prelude.{ℕ, List, ◌++◌, Some, None, codes}
use Rattle.std.specs.Str.Lossy.{utf8_lossy}
use Rattle.serde_json.specs.Data.{Data, string, array, item, no_items, object, member, no_members}
use Rattle.base_values.specs.declared.answer.Methods.{Methods}
use Rattle.base_values.specs.declared.answer.Response.{Response}
use Rattle.model_faults.specs.declared.fields.Fault.{Fault}
use Rattle.model_faults.specs.Fields.{field_name, problem_text}
use Rattle.web_responses.specs.Responses.{response, detail_body}

-- `{"field":["text"]}`
abbrev pub fault_body : Fault → Data
fault_body fault = object (member (field_name fault.field) (array (item (string (problem_text fault.problem)) no_items)) no_members)

-- 400 for a field of a body, with what is wrong with it
unfoldable pub field_fault : Fault → Response
field_fault fault = response 400 None (fault_body fault)

-- 400 for a body that isn't JSON
unfoldable pub parse_error : Response
parse_error = response 400 None (detail_body (codes "JSON parse error."))

-- `{"detail":"Invalid data."}`
abbrev pub invalid_data_body : Data
invalid_data_body = detail_body (codes "Invalid data.")

-- 400 for a body that is JSON of another shape than the call has
unfoldable pub invalid_data : Response
invalid_data = response 400 None invalid_data_body

-- 401 for a request without a token
unfoldable pub no_credentials : Response
no_credentials = response 401 None (detail_body (codes "Authentication credentials were not provided."))

-- 401 for a request whose token the shop doesn't know
unfoldable pub invalid_token : Response
invalid_token = response 401 None (detail_body (codes "Invalid token."))

-- `{"detail":"Not found."}`
abbrev pub not_found_body : Data
not_found_body = detail_body (codes "Not found.")

-- 404 for a path that names nothing in the shop
unfoldable pub not_found : Response
not_found = response 404 None not_found_body

-- `{"detail":"Invalid page."}`
abbrev pub invalid_page_body : Data
invalid_page_body = detail_body (codes "Invalid page.")

-- 404 for a page that isn't there, or whose number can't be read
unfoldable pub invalid_page : Response
invalid_page = response 404 None invalid_page_body

-- the method stands in the text as it stands in the head
abbrev pub method_text : List ℕ → List ℕ
method_text method = codes "Method \"" ++ utf8_lossy method ++ codes "\" not allowed."

-- 405 for a method that the path hasn't, with those that it has
unfoldable pub method_not_allowed : List ℕ → Methods → Response
method_not_allowed method methods = response 405 (Some methods) (detail_body (method_text method))
