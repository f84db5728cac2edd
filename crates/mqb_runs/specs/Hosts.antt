-- The two managers of a replay.
use Rattle.std.specs.Prelude.{[], ◌∷◌, List, codes}
use Rattle.mqb_base.specs.declared.ids.Identity.{Identity}
use Rattle.mqb_script.specs.declared.managers.Which.{Which}
use Rattle.mqb_script.specs.declared.managers.Which.TheVariants.{Alpha, Beta}

abbrev pub alpha : Identity
alpha = record {
  host = codes "alpha";
  guid = record {
    0 = 0x0A ∷ 0x0B ∷ 0x0C ∷ 0x0D ∷ 0x11 ∷ 0x12 ∷ 0x13 ∷ 0x14 ∷ 0x15 ∷ 0x16 ∷ 0x17 ∷ 0x18 ∷ 0x19
        ∷ 0x1A ∷ 0x1B ∷ 0x1C ∷ [];
  };
  address = 10 ∷ 0 ∷ 0 ∷ 1 ∷ [];
}

abbrev pub beta : Identity
beta = record {
  host = codes "beta";
  guid = record {
    0 = 0x2A ∷ 0x2B ∷ 0x2C ∷ 0x2D ∷ 0x31 ∷ 0x32 ∷ 0x33 ∷ 0x34 ∷ 0x35 ∷ 0x36 ∷ 0x37 ∷ 0x38 ∷ 0x39
        ∷ 0x3A ∷ 0x3B ∷ 0x3C ∷ [];
  };
  address = 10 ∷ 0 ∷ 0 ∷ 2 ∷ [];
}

-- in the order of their indexes
abbrev pub hosts : List Identity
hosts = alpha ∷ beta ∷ []

abbrev pub identity_of : Which → Identity
identity_of Alpha = alpha
identity_of Beta = beta
