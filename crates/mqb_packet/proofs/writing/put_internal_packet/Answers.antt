use Rattle.std.proofs.Common.{◌≤◌, ◌∙◌, ◌++◌, length, sym, arith, length-append}
use Rattle.mqb_fields.specs.lemmas.Again.{put_all}
use Rattle.mqb_heads.specs.Base.{plain_base}
use Rattle.mqb_fields.specs.lemmas.Wrote.{◌>>◌}
use Rattle.mqb_setup.specs.Internals.{plain_internal}
use Rattle.mqb_packet.specs.Plain.{internal_base}
use Rattle.mqb_packet.proofs.Behind.{wrote_first}
use Rattle.mqb_packet.proofs.writing.put_internal_packet.Goals as goal

pub returns : goal.returns
returns c =
    let base = plain_base (internal_base c.args.session c.args.size) in
    let inner = plain_internal c.args.part.now in
    let fits : length base ≤ length c.args.to.now = omega (arith, c.requires.room, c.requires.least) in
    let wrote =
    wrote_first c.args.to.now c.put_base-head.new.to base c.put_base-head.result fits c.put_base-head.ensures.put c.put_base-head.ensures.len
    >> c.put_internal_behind.ensures in
    wrote.put ∙ put_all c.args.to.now (base ++ inner) (c.requires.room ∙ c.requires.size ∙ sym (length-append base inner))
