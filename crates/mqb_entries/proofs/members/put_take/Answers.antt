use Rattle.std.proofs.Common.{[], ◌∷◌}
use Rattle.mqb_fields.specs.Writing.{bytes_of}
use Rattle.mqb_entries.specs.Spelled.{spelled_id}
use Rattle.mqb_entries.proofs.Joined.{three_added}
use Rattle.mqb_entries.proofs.members.put_take.Goals as goal

pub returns-clause-items : goal.returns-clause-items
returns-clause-items c =
    three_added c.args.out.now.items (2 ∷ []) (bytes_of 4 c.args.queue) (spelled_id c.args.id.now) c.put_u8.new.out.items c.put_u32.new.out.items c.put_id.new.out.items
    c.put_u8.ensures.items c.put_u32.ensures.items c.put_id.ensures.items
