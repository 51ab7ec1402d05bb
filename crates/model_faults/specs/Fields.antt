-- The names of fields, and the sentences that say what is wrong with one.
use Rattle.std.specs.Prelude.{ℕ, List, codes}
use Rattle.model_faults.specs.declared.fields.Field.{Field}
use Rattle.model_faults.specs.declared.fields.Field.TheVariants as fields
use Rattle.model_faults.specs.declared.fields.Problem.{Problem}
use Rattle.model_faults.specs.declared.fields.Problem.TheVariants as problems

-- the name by which a body gives the field
abbrev pub field_name : Field → List ℕ
field_name fields.Name = codes "name"
field_name fields.DefaultPrice = codes "default_price"
field_name fields.Active = codes "active"
field_name fields.Variations = codes "variations"
field_name fields.Size = codes "size"
field_name fields.Items = codes "items"
field_name fields.ReleaseAfterExit = codes "release_after_exit"
field_name fields.Item = codes "item"
field_name fields.Variation = codes "variation"
field_name fields.Price = codes "price"
field_name fields.CartId = codes "cart_id"
field_name fields.Expires = codes "expires"
field_name fields.Voucher = codes "voucher"
field_name fields.Value = codes "value"
field_name fields.Code = codes "code"
field_name fields.MaxUsages = codes "max_usages"
field_name fields.ValidUntil = codes "valid_until"
field_name fields.BlockQuota = codes "block_quota"
field_name fields.AllowIgnoreQuota = codes "allow_ignore_quota"
field_name fields.PriceMode = codes "price_mode"
field_name fields.Quota = codes "quota"
field_name fields.Tag = codes "tag"
field_name fields.Comment = codes "comment"
field_name fields.Budget = codes "budget"
field_name fields.Email = codes "email"
field_name fields.Status = codes "status"
field_name fields.ConsumeCarts = codes "consume_carts"
field_name fields.Positions = codes "positions"
field_name fields.Priority = codes "priority"
field_name fields.AllProducts = codes "all_products"
field_name fields.LimitProducts = codes "limit_products"
field_name fields.IncludePending = codes "include_pending"
field_name fields.AllowMultipleEntries = codes "allow_multiple_entries"
field_name fields.AllowEntryAfterExit = codes "allow_entry_after_exit"
field_name fields.Type = codes "type"
field_name fields.Nonce = codes "nonce"
field_name fields.Datetime = codes "datetime"
field_name fields.Force = codes "force"
field_name fields.IgnoreUnpaid = codes "ignore_unpaid"

-- the sentence that says what is wrong with the field
abbrev pub problem_text : Problem → List ℕ
problem_text problems.Required = codes "This field is required."
problem_text problems.Null = codes "This field may not be null."
problem_text problems.Blank = codes "This field may not be blank."
problem_text problems.Invalid = codes "A valid value is required."
problem_text problems.OutOfRange = codes "Value out of range."
problem_text problems.NotAllowed = codes "Text not allowed."
