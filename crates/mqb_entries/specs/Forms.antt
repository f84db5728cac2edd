-- A list of members, given as it is spelled or as values.
use Rattle.std.specs.Prelude.{◌≤◌, ℕ, List, [], length, Result, unwrap_or}
use Rattle.mqb_fields.specs.Reading.{Reading}
use Rattle.mqb_entries.specs.declared.faults.EntryFault.{EntryFault}
use Rattle.mqb_entries.specs.declared.lists.Form.{Form}
use Rattle.mqb_entries.specs.declared.lists.Form.TheVariants.{Spelled, Values}
use Rattle.mqb_entries.specs.Lists.{members_of, AreSpelled}
use Rattle.mqb_entries.specs.declared.limits.TheConstants.{MAX_LISTED}

abbrev pub listed : {M : Type 0} → (Reading → Result (M × Reading) EntryFault) → Form M → List M
listed member (Spelled bytes count) = unwrap_or (members_of member count bytes.now) []
listed member (Values members) = members.now

abbrev pub IsList : {M : Type 0} → (Reading → Result (M × Reading) EntryFault) → (M → List ℕ)
    → (M → Type 0) → Form M → Type 0
IsList member spell Fits (Spelled bytes count) =
    AreSpelled spell Fits count bytes.now (listed member (Spelled bytes count))
IsList member spell Fits (Values members) = length members.now ≤ MAX_LISTED
