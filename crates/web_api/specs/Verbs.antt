-- What a method asks for.
use Rattle.std.specs.Prelude.{ℕ, Bool, true, false, List, if◌then◌else◌, codes, bytes_eq}
use Rattle.web_api.specs.declared.verb.Verb.{Verb}
use Rattle.web_api.specs.declared.verb.Verb.TheVariants.{Get, Post, Patch, Delete, Other}

-- the method of that name
abbrev pub verb_of : List ℕ → Verb
verb_of name =
    if bytes_eq name (codes "GET") then Get
    else (if bytes_eq name (codes "POST") then Post
    else (if bytes_eq name (codes "PATCH") then Patch
    else (if bytes_eq name (codes "DELETE") then Delete else Other)))

-- a request of this method is a write, done or refused
abbrev pub is_write : Verb → Bool
is_write Get = false
is_write Post = true
is_write Patch = true
is_write Delete = true
is_write Other = false
