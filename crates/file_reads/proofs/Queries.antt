-- What a SELECT compiles to, whatever the schema: a statement that writes nothing.
use Rattle.std.proofs.Common.{◌≡◌, ◌⊎◌, inl, inr, ℕ, Bool, true, false, if◌then◌else◌, List, Option, None, Ok, Err, refl, sym, subst, ap, ◌∙◌}
use Rattle.sqlite_ast.specs.declared.Statement.{Statement}
use Rattle.sqlite_ast.specs.declared.Statement.TheVariants as written
use Rattle.sqlite_syntax.specs.declared.statement.Parsed.{Parsed}
use Rattle.sqlite_schema.specs.declared.schema.Schema.{Schema}
use Rattle.sqlite_schema.specs.declared.command.Command.{Command}
use Rattle.sqlite_schema.specs.declared.command.Returning.{Returning}
use Rattle.sqlite_resolve.specs.declared.compiled.Compiled.{Compiled}
use Rattle.sqlite_resolve.specs.declared.error.CompileError.TheVariants.{NoSuchTable}
use Rattle.sqlite_resolve.specs.Lowering.{Checked, and_then}
use Rattle.sqlite_resolve.specs.Compile.{first, compiled, planned, meaning, command, returning, with_command}
use Rattle.sqlite.specs.Listing.{understood, reads_listing, if_select, is_select, listing_schema}
use Rattle.file_reads.specs.Damage.{IsForReading}

abbrev pub asks_only : Statement → Bool
asks_only (written.Select s) = true
asks_only _ = false

abbrev pub is_query : Checked Parsed → Bool
is_query (Ok p) = asks_only p.statement
is_query (Err e) = false

gave : {A B : Type 0} (r : Checked A) (f : A → Checked B) (b : B) → and_then r f ≡ Ok b → (a : A) × (r ≡ Ok a) × (f a ≡ Ok b)
gave (Ok a) f b h = (a, refl, h)
gave (Err e) f b h = absurd (cc)

returns_none : (schema : Schema) (base : ℕ) (s : Statement) → asks_only s ≡ true → (shown : Option Returning) → returning schema base s ≡ Ok shown → shown ≡ None
unfolding returning
returns_none schema base written.Empty h shown is = cc
returns_none schema base (written.Select s) h shown is = cc
returns_none schema base (written.Insert how name columns rows clauses more) h shown is = absurd (let e : false ≡ true = h in cc)
returns_none schema base (written.Update name sets test more) h shown is = absurd (let e : false ≡ true = h in cc)
returns_none schema base (written.Delete name test more) h shown is = absurd (let e : false ≡ true = h in cc)
returns_none schema base (written.Pragma name value) h shown is = cc
returns_none schema base (written.CreateTable def) h shown is = cc
returns_none schema base (written.CreateIndex def) h shown is = cc
returns_none schema base (written.CreateView if_missing name columns s) h shown is = cc
returns_none schema base (written.DropTable if_exists name) h shown is = cc
returns_none schema base (written.DropIndex if_exists name) h shown is = cc
returns_none schema base (written.DropView if_exists name) h shown is = cc
returns_none schema base written.Begin h shown is = cc
returns_none schema base written.Commit h shown is = cc
returns_none schema base written.Rollback h shown is = cc
returns_none schema base (written.Savepoint name) h shown is = cc
returns_none schema base (written.Release name) h shown is = cc
returns_none schema base (written.RollbackTo name) h shown is = cc

keeps : (r : Checked Command) (shown : Option Returning) (m : Command × Option Returning) → and_then r (λ c. Ok (c, shown)) ≡ Ok m → m.1 ≡ shown
keeps (Ok c) shown m h = let same : m ≡ (c, shown) = cc in ap (λ (k : Command × Option Returning). k.1) same
keeps (Err e) shown m h = absurd (cc)

meaning_returns : (schema : Schema) (p : Parsed) (base : ℕ) → asks_only p.statement ≡ true → (m : Command × Option Returning) → meaning schema p base ≡ Ok m → m.1 ≡ None
unfolding meaning
meaning_returns schema p base asks m h =
    let (shown, returned, h1) = gave (returning schema base p.statement) _ m h in
    keeps (command schema p.formats base p.statement) shown m h1 ∙ returns_none schema base p.statement asks shown returned

plan_returns : (schema : Schema) (p : Parsed) → asks_only p.statement ≡ true → (plan : List (List ℕ) × (Command × Option Returning)) → planned schema p ≡ Ok plan → plan.1.1 ≡ None
unfolding planned
plan_returns schema p asks plan h =
    let (m, meant, h1) = gave (meaning schema p _) _ plan h in
    let none : m.1 ≡ None = meaning_returns schema p _ asks m meant in
    cc

compiled_returns : (schema : Schema) (sql : List ℕ) → is_query (first sql) ≡ true → (c : Compiled) → compiled schema sql ≡ Ok c → c.returning ≡ None
unfolding compiled
compiled_returns schema sql query c h =
    let (p, parsed, h1) = gave (first sql) _ c h in
    let (plan, planned_is, h2) = gave (planned schema p) _ c h1 in
    let asks : asks_only p.statement ≡ true = ap is_query (sym parsed) ∙ query in
    let none : plan.1.1 ≡ None = plan_returns schema p asks plan planned_is in
    let same : with_command p plan ≡ c = cc in
    subst (λ (k : Compiled). k.returning ≡ None) same none

chosen : (b : Bool) (d c : Compiled) → (if b then Ok d else Err NoSuchTable) ≡ Ok c → d ≡ c
chosen true d c h = cc
chosen false d c h = absurd (cc)

selected : (r : Checked Compiled) (c : Compiled) → if_select r ≡ Ok c → r ≡ Ok c
selected (Ok d) c h = ap Ok (chosen (is_select d.command) d c h)
selected (Err e) c h = absurd (cc)

either : (b : Bool) (r s : Checked Compiled) (c : Compiled) → (if b then if_select r else s) ≡ Ok c → (r ≡ Ok c) ⊎ (s ≡ Ok c)
either true r s c h = inl (selected r c h)
either false r s c h = inr h

by_either : (schema : Schema) (sql : List ℕ) (c : Compiled) → is_query (first sql) ≡ true → (compiled listing_schema sql ≡ Ok c) ⊎ (compiled schema sql ≡ Ok c) → c.returning ≡ None
by_either schema sql c query (inl h) = compiled_returns listing_schema sql query c h
by_either schema sql c query (inr h) = compiled_returns schema sql query c h

-- a SELECT is for reading
pub query_reads : (sql : List ℕ) → is_query (first sql) ≡ true → (schema : Schema) → IsForReading schema sql
unfolding understood
query_reads sql query schema c h = by_either schema sql c query (either (reads_listing schema sql) (compiled listing_schema sql) (compiled schema sql) c h)
