-- What holds of every command that is a value, by the types of what it holds.
use Rattle.std.specs.List.{AllByRecursion}
use Rattle.model_catalogue.specs.FitRequests.{IsFitItem, IsFitItemPatch, IsFitVariation, IsFitQuota, IsFitQuotaPatch}
use Rattle.model_commands.specs.FitRequests.{IsFitVoucher, IsFitVoucherPatch, IsFitCart, IsFitEntry, IsFitOrder, IsFitMove, IsFitWaiting, IsFitWaitingPatch, IsFitCheckinList, IsFitScan}
use Rattle.model_commands.specs.declared.requests.Command.{Command}
use Rattle.model_commands.specs.declared.requests.Command.TheVariants as commands

-- its texts, amounts of money, moments and counts are within their limits
abbrev pub IsFit : Command → Type 0
IsFit (commands.AddItem new) = IsFitItem new
IsFit (commands.ChangeItem id patch) = IsFitItemPatch patch
IsFit (commands.AddVariation item new) = IsFitVariation new
IsFit (commands.AddQuota new) = IsFitQuota new
IsFit (commands.ResizeQuota id patch) = IsFitQuotaPatch patch
IsFit (commands.AddVoucher new) = IsFitVoucher new
IsFit (commands.ChangeVoucher id patch) = IsFitVoucherPatch patch
IsFit (commands.DropVoucher id) = Unit {0}
IsFit (commands.ImportVouchers rows) = AllByRecursion IsFitVoucher rows
IsFit (commands.AddCart new) = IsFitCart new
IsFit (commands.AddCarts entries) = AllByRecursion IsFitEntry entries
IsFit (commands.DropCart id) = Unit {0}
IsFit (commands.AddOrder new) = IsFitOrder new
IsFit (commands.MoveOrder number move) = IsFitMove move
IsFit (commands.AddWaiting new) = IsFitWaiting new
IsFit (commands.ChangeWaiting id patch) = IsFitWaitingPatch patch
IsFit (commands.DropWaiting id) = Unit {0}
IsFit (commands.SendVoucher id) = Unit {0}
IsFit commands.Periodic = Unit {0}
IsFit (commands.AddCheckinList new) = IsFitCheckinList new
IsFit (commands.Redeem list ticket scan) = IsFitScan scan
