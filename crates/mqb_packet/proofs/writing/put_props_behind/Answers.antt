use Rattle.std.proofs.Common.{◌≤◌, ◌+◌, ℕ, length, subst, sym}
use Rattle.mqb_heads.specs.Properties.{plain_props}
use Rattle.mqb_heads.specs.lemmas.Put.{props_sizes}
use Rattle.mqb_packet.proofs.Behind.{wrote_behind}
use Rattle.mqb_packet.proofs.writing.put_props_behind.Goals as goal

pub returns : goal.returns
returns c =
    let fits : ℕ → Type 0 = λ n. c.args.at + n ≤ length c.args.to.now in
    wrote_behind c.args.to.now c.put_props.new.to (plain_props c.args.message.now) c.args.at c.put_props.result
    (subst fits (sym (props_sizes c.args.message.now)) c.requires.room) c.put_props.ensures.put c.put_props.ensures.len
