use Rattle.std.specs.Prelude.{◌≡◌, Option, Some, None, Result, Ok, Err, IsOk, IsOkUnless}

-- A call is refused by exactly this fault, where there is one. Otherwise only want
-- of memory refuses it.
abbrev pub RefusedBy : {T E : Type 0} → Option E → E → Result T E → Type 0
RefusedBy (Some fault) memory r = r ≡ Err fault
RefusedBy None memory r = IsOkUnless r memory

-- A call that takes no memory is refused by exactly this fault, where there is one.
abbrev pub RefusedExactly : {T E : Type 0} → Option E → Result T E → Type 0
RefusedExactly (Some fault) r = r ≡ Err fault
RefusedExactly None r = IsOk r
