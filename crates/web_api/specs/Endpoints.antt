-- What each method asks for at each target.
use Rattle.std.specs.Prelude.{ℕ, Option, Some, None, is_some}
use Rattle.base_values.specs.declared.answer.Methods.{Methods}
use Rattle.model_commands.specs.declared.requests.Query.TheVariants as queries
use Rattle.model_commands.specs.declared.requests.Resource.{Resource}
use Rattle.model_commands.specs.declared.requests.Resource.TheVariants as resources
use Rattle.web_bodies.specs.declared.form.MoveName.{MoveName}
use Rattle.web_api.specs.declared.path.Target.{Target}
use Rattle.web_api.specs.declared.path.Target.TheVariants as targets
use Rattle.web_api.specs.declared.verb.Verb.{Verb}
use Rattle.web_api.specs.declared.verb.Verb.TheVariants as verbs
use Rattle.web_bodies.specs.declared.form.Form.{Form}
use Rattle.web_bodies.specs.declared.form.Form.TheVariants as forms
use Rattle.web_api.specs.declared.endpoint.Endpoint.{Endpoint}
use Rattle.web_api.specs.declared.endpoint.Endpoint.TheVariants as endpoints

-- the form of a new row; positions of a check-in list are made with their orders
abbrev pub new_form : Resource → Option Form
new_form resources.Items = Some forms.Item
new_form resources.Quotas = Some forms.Quota
new_form resources.Vouchers = Some forms.Voucher
new_form resources.Carts = Some forms.Cart
new_form resources.Orders = Some forms.Order
new_form resources.WaitingEntries = Some forms.Waiting
new_form resources.CheckinLists = Some forms.CheckinList
new_form (resources.Tickets door) = None

-- the form of a change; cart positions, orders and check-in lists have none
abbrev pub change_form : Resource → ℕ → Option Form
change_form resources.Items id = Some (forms.ItemPatch id)
change_form resources.Quotas id = Some (forms.QuotaPatch id)
change_form resources.Vouchers id = Some (forms.VoucherPatch id)
change_form resources.WaitingEntries id = Some (forms.WaitingPatch id)
change_form _ id = None

-- the form of a deletion; items, quotas, orders and check-in lists have none
abbrev pub drop_form : Resource → ℕ → Option Form
drop_form resources.Vouchers id = Some (forms.DropVoucher id)
drop_form resources.Carts id = Some (forms.DropCart id)
drop_form resources.WaitingEntries id = Some (forms.DropWaiting id)
drop_form _ id = None

-- a write with a body of this form; where there is none the target hasn't the method
abbrev pub write_of : Option Form → Option Endpoint
write_of None = None
write_of (Some form) = Some (endpoints.Write form)

-- an order is read by its number; none stands for an order that there isn't
abbrev pub read_order : Option ℕ → Endpoint
read_order None = endpoints.ReadMissing
read_order (Some number) = endpoints.Read (queries.One resources.Orders number)

-- an order is moved by its number; none stands for an order that there isn't
abbrev pub move_order : Option ℕ → MoveName → Endpoint
move_order None name = endpoints.MoveMissing name
move_order (Some number) name = endpoints.Write (forms.Move number name)

-- a list has GET and perhaps POST, a row GET and perhaps PATCH and DELETE;
-- each other target has one method, and what isn't here no target has
abbrev pub endpoint_of : Target → Verb → Option Endpoint
endpoint_of (targets.All resource) verbs.Get = Some (endpoints.Page resource)
endpoint_of (targets.All resource) verbs.Post = write_of (new_form resource)
endpoint_of (targets.One resource id) verbs.Get = Some (endpoints.Read (queries.One resource id))
endpoint_of (targets.One resource id) verbs.Patch = write_of (change_form resource id)
endpoint_of (targets.One resource id) verbs.Delete = write_of (drop_form resource id)
endpoint_of (targets.Variations item) verbs.Post = Some (endpoints.Write (forms.Variation item))
endpoint_of (targets.Availability quota) verbs.Get = Some (endpoints.Read (queries.Availability quota))
endpoint_of targets.Bulk verbs.Post = Some (endpoints.Write forms.Carts)
endpoint_of (targets.Order number) verbs.Get = Some (read_order number)
endpoint_of (targets.Moved number name) verbs.Post = Some (move_order number name)
endpoint_of (targets.Sending id) verbs.Post = Some (endpoints.Write (forms.SendVoucher id))
endpoint_of targets.Periodic verbs.Post = Some (endpoints.Write forms.Periodic)
endpoint_of (targets.Status door) verbs.Get = Some (endpoints.Read (queries.Status door))
endpoint_of (targets.Redeem door) verbs.Post = Some (endpoints.Redeem door)
endpoint_of _ _ = None

-- the methods that a target has: those that ask for something there
abbrev pub methods_of : Target → Methods
methods_of target = record {
  get = is_some (endpoint_of target verbs.Get);
  post = is_some (endpoint_of target verbs.Post);
  patch = is_some (endpoint_of target verbs.Patch);
  delete = is_some (endpoint_of target verbs.Delete);
}
