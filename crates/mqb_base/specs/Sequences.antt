use Rattle.std.specs.Prelude.{Bool, ◌==◌, ◌&&◌, ◌||◌, nat_lt}
use Rattle.mqb_base.specs.declared.ids.SequenceId.{SequenceId}

abbrev pub same_sequence : SequenceId → SequenceId → Bool
same_sequence a b = a.ordinal == b.ordinal && a.stamp == b.stamp

-- the ordinal decides, and then the stamp
abbrev pub earlier : SequenceId → SequenceId → Bool
earlier a b = nat_lt a.ordinal b.ordinal || (a.ordinal == b.ordinal && nat_lt a.stamp b.stamp)
