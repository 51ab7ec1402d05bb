-- The bodies of commands, field by field in the order of their tests.
use Rattle.std.specs.Prelude.{List, Option, Some, None, Result, Ok, Err}
use Rattle.serde_json.specs.Data.{Data, Items}
use Rattle.serde_json.specs.Find.{as_array}
use Rattle.model_commands.specs.declared.carts.Entry.{Entry}
use Rattle.model_commands.specs.declared.orders.Move.{Move}
use Rattle.model_commands.specs.declared.orders.Move.TheVariants as moves
use Rattle.model_commands.specs.declared.requests.Command.{Command}
use Rattle.model_commands.specs.declared.requests.Command.TheVariants as commands
use Rattle.web_fields.specs.declared.error.BodyFault.{BodyFault}
use Rattle.web_fields.specs.declared.error.BodyFault.TheVariants as faults
use Rattle.web_fields.specs.Reading.{◌>>=◌}
use Rattle.web_bodies.specs.CartBodies.{cart_of}
use Rattle.web_bodies.specs.CatalogueBodies.{item_of, item_patch_of, variation_of, quota_of, quota_patch_of}
use Rattle.web_bodies.specs.VoucherBodies.{voucher_of, voucher_patch_of}
use Rattle.web_bodies.specs.OrderBodies.{order_of, end_of, entries_of}
use Rattle.web_bodies.specs.WaitingBodies.{waiting_of, waiting_patch_of}
use Rattle.web_bodies.specs.DoorBodies.{checkin_list_of}
use Rattle.web_bodies.specs.declared.form.MoveName.{MoveName}
use Rattle.web_bodies.specs.declared.form.MoveName.TheVariants as names
use Rattle.web_bodies.specs.declared.form.Form.{Form}
use Rattle.web_bodies.specs.declared.form.Form.TheVariants as forms

-- the entries of a body that is a list
abbrev pub list_from : Option Items → Result Items BodyFault
list_from None = Err faults.InvalidData
list_from (Some ds) = Ok ds

-- the entries of a body, which has to be a list
abbrev pub list_of : Data → Result Items BodyFault
list_of d = list_from (as_array d)

-- the entries of a bulk call; what is wrong with one of them is no fault of the body
abbrev pub carts_of : Data → Result (List Entry) BodyFault
carts_of d = list_of d >>= entries_of

-- the move with that name; only `extend` reads a field
abbrev pub move_of : MoveName → Data → Result Move BodyFault
move_of names.MarkPaid d = Ok moves.MarkPaid
move_of names.MarkPending d = Ok moves.MarkPending
move_of names.MarkExpired d = Ok moves.MarkExpired
move_of names.MarkCanceled d = Ok moves.MarkCanceled
move_of names.Extend d = end_of d >>= λ end. Ok (moves.Extend end)

-- the command that a body's fields say
abbrev pub command_of : Form → Data → Result Command BodyFault
command_of forms.Item d = item_of d >>= λ new. Ok (commands.AddItem new)
command_of (forms.ItemPatch id) d = item_patch_of d >>= λ patch. Ok (commands.ChangeItem id patch)
command_of (forms.Variation item) d = variation_of d >>= λ new. Ok (commands.AddVariation item new)
command_of forms.Quota d = quota_of d >>= λ new. Ok (commands.AddQuota new)
command_of (forms.QuotaPatch id) d = quota_patch_of d >>= λ patch. Ok (commands.ResizeQuota id patch)
command_of forms.Voucher d = voucher_of d >>= λ new. Ok (commands.AddVoucher new)
command_of (forms.VoucherPatch id) d = voucher_patch_of d >>= λ patch. Ok (commands.ChangeVoucher id patch)
command_of (forms.DropVoucher id) d = Ok (commands.DropVoucher id)
command_of forms.Cart d = cart_of d >>= λ new. Ok (commands.AddCart new)
command_of forms.Carts d = carts_of d >>= λ entries. Ok (commands.AddCarts entries)
command_of (forms.DropCart id) d = Ok (commands.DropCart id)
command_of forms.Order d = order_of d >>= λ new. Ok (commands.AddOrder new)
command_of (forms.Move number name) d = move_of name d >>= λ move. Ok (commands.MoveOrder number move)
command_of forms.Waiting d = waiting_of d >>= λ new. Ok (commands.AddWaiting new)
command_of (forms.WaitingPatch id) d = waiting_patch_of d >>= λ patch. Ok (commands.ChangeWaiting id patch)
command_of (forms.DropWaiting id) d = Ok (commands.DropWaiting id)
command_of (forms.SendVoucher id) d = Ok (commands.SendVoucher id)
command_of forms.Periodic d = Ok commands.Periodic
command_of forms.CheckinList d = checkin_list_of d >>= λ new. Ok (commands.AddCheckinList new)
