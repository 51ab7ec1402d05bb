-- The bodies of items, variations and quotas, field by field in the order of their tests.
use Rattle.std.specs.Prelude.{ℕ, true, false, List, [], Option, Result, Ok}
use Rattle.serde_json.specs.Data.{Data}
use Rattle.base_values.specs.Counts.{most_places}
use Rattle.model_catalogue.specs.declared.requests.NewItem.{NewItem}
use Rattle.model_catalogue.specs.declared.requests.ItemPatch.{ItemPatch}
use Rattle.model_catalogue.specs.declared.requests.NewVariation.{NewVariation}
use Rattle.model_catalogue.specs.declared.requests.NewQuota.{NewQuota}
use Rattle.model_catalogue.specs.declared.requests.QuotaPatch.{QuotaPatch}
use Rattle.model_faults.specs.declared.fields.Field.TheVariants as fields
use Rattle.web_fields.specs.declared.error.BodyFault.{BodyFault}
use Rattle.web_fields.specs.Reading.{◌>>=◌, fault_renamed}
use Rattle.web_fields.specs.Modes.{required_value, nullable, present}
use Rattle.web_fields.specs.Kinds.{money, name, whole}
use Rattle.web_fields.specs.Lists.{list, all_of, entry_object}
use Rattle.web_fields.specs.Lacking.{each, or_else, truth_or, optional_money, ids_or_none}
use Rattle.web_fields.specs.Patched.{patched_name, patched_money, patched_truth, patched_whole_or_null}

-- a new variation; without a price of its own it costs what its item does
unfoldable pub variation_of : Data → Result NewVariation BodyFault
variation_of d = do
  v ← required_value fields.Value d
  given ← name fields.Value v
  price ← optional_money fields.DefaultPrice d
  active ← truth_or fields.Active true d
  Ok (record { name = given; default_price = price; active = active })

-- an entry of an item's variations; all its faults are faults of the list
abbrev pub variation_entry : Data → Result NewVariation BodyFault
variation_entry d = entry_object fields.Variations d >>= λ v. fault_renamed fields.Variations (variation_of v)

-- the variations of a list, in its order, or the fault of the first that has one
abbrev pub variation_list : Data → Result (List NewVariation) BodyFault
variation_list v = list fields.Variations v >>= all_of variation_entry

-- the variations of a new item, none where the list is absent
abbrev pub variations_of : Data → Result (List NewVariation) BodyFault
variations_of d = present fields.Variations d >>= or_else variation_list []

-- a new item
unfoldable pub item_of : Data → Result NewItem BodyFault
item_of d = do
  n ← required_value fields.Name d
  given ← name fields.Name n
  p ← required_value fields.DefaultPrice d
  price ← money fields.DefaultPrice p
  active ← truth_or fields.Active true d
  variations ← variations_of d
  Ok (record { name = given; default_price = price; active = active; variations = variations })

-- a change of an item
unfoldable pub item_patch_of : Data → Result ItemPatch BodyFault
item_patch_of d = do
  given ← patched_name fields.Name d
  price ← patched_money fields.DefaultPrice d
  active ← patched_truth fields.Active d
  Ok (record { name = given; default_price = price; active = active })

-- the size of a quota, which has to be there: 0 to 1,000,000, or null for no limit
abbrev pub size_of : Data → Result (Option ℕ) BodyFault
size_of d = nullable fields.Size d >>= each (whole fields.Size 0 most_places)

-- a new quota; where nothing says that it releases places, it keeps them
unfoldable pub quota_of : Data → Result NewQuota BodyFault
quota_of d = do
  n ← required_value fields.Name d
  given ← name fields.Name n
  size ← size_of d
  items ← ids_or_none fields.Items d
  variations ← ids_or_none fields.Variations d
  releases ← truth_or fields.ReleaseAfterExit false d
  Ok (record { name = given; release_after_exit = releases; size = size; items = items; variations = variations })

-- the new size of a quota: absent it stays, and null is no limit
abbrev pub new_size : Data → Result (Option (Option ℕ)) BodyFault
new_size d = patched_whole_or_null fields.Size 0 most_places d

-- a change of a quota: no other field is read
abbrev pub quota_patch_of : Data → Result QuotaPatch BodyFault
quota_patch_of d = new_size d >>= λ size. Ok (record { size = size })
