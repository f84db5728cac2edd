-- What ends a world.
use Rattle.std.specs.Prelude.{Bool, false, true}
use Rattle.mqb_posts.specs.declared.faults.PostFault.{PostFault}
use Rattle.mqb_posts.specs.declared.faults.PostFault.TheVariants as post
use Rattle.mqb_world.specs.declared.faults.WorldFault.{WorldFault}
use Rattle.mqb_world.specs.declared.faults.WorldFault.TheVariants as world

-- a packet that does not join the medium ends the world
abbrev pub world_fault : PostFault → WorldFault
world_fault post.NetFull = world.NetFull
world_fault post.Memory = world.Memory

-- a call of a disk failed
abbrev pub making_failed : WorldFault → Bool
making_failed world.DiskFault = true
making_failed _ = false
