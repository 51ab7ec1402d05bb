use Rattle.std.proofs.Common.{rules, ◌≡◌, subst, sym}
use Rattle.std.proofs.lemmas.Str.{IsUtf8-from_ascii}
use Rattle.base_values.specs.Codes.{order_code}
use Rattle.base_values.specs.Texts.{IsText}
use Rattle.base_values.proofs.CodeLemmas.{five_ascii, order_code_text}
use Rattle.base_values.proofs.codes.order_code.Goals as goal

pub unreachable-requires : goal.unreachable-requires
unreachable-requires c =
    absurd (c.in_default.ensures.cases.0 (IsUtf8-from_ascii _ (five_ascii _ _ _ _ _ c.letter.ensures.ascii c.letter-2.ensures.ascii c.letter-3.ensures.ascii c.letter-4.ensures.ascii c.letter-5.ensures.ascii)))

pub copy_of-requires : goal.copy_of-requires
unfolding order_code
copy_of-requires c =
    let same : c.in-Ok.code.now ≡ order_code c.args.number = search rules in
    subst IsText (sym same) (order_code_text c.args.number)
