-- What a parse says of the words of a command line.
use Rattle.std.proofs.Common.{◌≡◌, ◌⊎◌, ◌∙◌, ◌&&◌, Bool, not, ap, ap₂, refl, sym, subst, inl, inr, true, false, true≢false, Option, Some, None, List, [], ◌∷◌, option_map, Result, IfOk}
use Rattle.std.specs.Prelude.{unwrap_or}
use Rattle.std.proofs.lemmas.Option.{none-some}
use Rattle.clap.specs.Kinds.{Kinds, HasKind, IsAmong}
use Rattle.clap.specs.Values.{kind_of}
use Rattle.clap.specs.Walk.{Row, Text}
use Rattle.std.specs.declared.alloc.AllocError.{AllocError}
use Rattle.clap.specs.declared.builder.command.Command.{Command}
use Rattle.clap.specs.Simple.{App, app_of, is_simple, subcommand_of, with_subcommand}
use Rattle.clap.specs.Faults.{fault_of, is_simple_and_free}
use Rattle.clap.specs.declared.Error.{Error}
use Rattle.clap.specs.declared.error.ErrorKind.{ErrorKind}
use Rattle.clap.proofs.OnLiterals.{clap_on_literals}
use Rattle.web_cli.specs.Asked.{HasReason, IsReason, asked_for, asked_by}
use Rattle.web_cli.specs.Words.{IsWith, program}

pub program_is_simple : is_simple program ≡ true
unfolding clap_on_literals
program_is_simple = refl

pub program_is_free : is_simple_and_free program ≡ true
unfolding clap_on_literals
program_is_free = refl

-- what stands third of four that hold together, negated, is false
pub third_is_false : (a b c rest : Bool) → (a && (b && (not c && rest))) ≡ true → c ≡ false
third_is_false true true false rest h = refl
third_is_false true true true rest h = sym h
third_is_false true false c rest h = absurd (true≢false (sym h))
third_is_false false b c rest h = absurd (true≢false (sym h))

-- what a parse found is what the words ask for
pub asked_found : (app : App) (words : List Text) (R : Type 0) (found : Option (Text × List Row)) → app ≡ program
    → (is_simple_and_free app ≡ true → fault_of app words ≡ []) → (is_simple app ≡ true → R × (found ≡ subcommand_of app words))
    → asked_for words ≡ asked_by [] found
unfolding asked_for
asked_found app words R found is none matches =
    let free : is_simple_and_free app ≡ true = ap is_simple_and_free is ∙ program_is_free in
    let simple : is_simple app ≡ true = ap is_simple is ∙ program_is_simple in
    let no_fault : fault_of program words ≡ [] = ap (λ (a : App). fault_of a words) (sym is) ∙ none free in
    let command : subcommand_of program words ≡ found = ap (λ (a : App). subcommand_of a words) (sym is) ∙ sym (matches simple).1 in
    ap₂ asked_by no_fault command

-- the name and the rows of a command, each of which is told by itself
pub told_both : {X : Type 0} (f : X → Text × List Row) (found : Option X) (name : Text) (rows : List Row) → Some name ≡ option_map (λ x. (f x).0) found
    → Some rows ≡ option_map (λ p. p.1) (option_map f found) → option_map f found ≡ Some (name, rows)
told_both f None name rows named shown = absurd (none-some name (sym named))
told_both f (Some x) name rows named shown =
    let name_is : (f x).0 ≡ name = sym (ap (λ (o : Option Text). unwrap_or o []) named) in
    let rows_are : (f x).1 ≡ rows = sym (ap (λ (o : Option (List Row)). unwrap_or o []) shown) in
    ap₂ (λ a b. Some (a, b)) name_is rows_are

among : (kinds : Kinds) (found : Option (Text × List Row)) (kind : ErrorKind) → IsAmong kind kinds → HasReason (asked_by kinds found) kind
among [] found kind h = absurd h
among (first ∷ kinds) found kind h = h

reason_by : (kinds : Kinds) (found : Option (Text × List Row)) (kind : ErrorKind) (Memory : Type 0) → Memory ⊎ IsAmong kind kinds → Memory ⊎ HasReason (asked_by kinds found) kind
reason_by kinds found kind Memory (inl memory) = inl memory
reason_by kinds found kind Memory (inr h) = inr (among kinds found kind h)

-- where it failed, the words ask for nothing, for that reason
pub reason_of : (app : App) (words : List Text) (e : Error) → app ≡ program → (is_simple_and_free app ≡ true → HasKind (fault_of app words) e)
    → IsReason (asked_for words) (kind_of e)
unfolding asked_for
reason_of app words e is fails =
    let free : is_simple_and_free app ≡ true = ap is_simple_and_free is ∙ program_is_free in
    let has : HasKind (fault_of program words) e = subst (λ (a : App). HasKind (fault_of a words) e) is (fails free) in
    reason_by (fault_of program words) (subcommand_of program words) (kind_of e) _ has

-- a program that is told, with one more command that is told, is the one with it
pub now_with : (old told : App) (made : Result Command AllocError) (command new : App) → old ≡ told → IfOk made (λ c. app_of c ≡ command) → command.top.is_plain ≡ true → IsWith old made new → new ≡ with_subcommand told command.top
now_with old told made command new old_is made_is plain is =
    let added : Command = is.0 in
    let added_is : app_of added ≡ command = subst (λ (r : Result Command AllocError). IfOk r (λ c. app_of c ≡ command)) is.1 made_is in
    is.2 (ap (λ (a : App). a.top.is_plain) added_is ∙ plain) ∙ ap₂ with_subcommand old_is (ap (λ (a : App). a.top) added_is)
