use Rattle.std.proofs.Common.{◌≡◌, ◌∙◌, ◌+◌, ℕ, ap, sym, arith}
use Rattle.mqb_fields.specs.lemmas.Again.{put_all}
use Rattle.mqb_heads.specs.Base.{plain_base}
use Rattle.mqb_heads.specs.Properties.{props_size}
use Rattle.mqb_heads.specs.User.{user_size}
use Rattle.mqb_fields.specs.lemmas.Wrote.{◌>>◌, said}
use Rattle.mqb_packet.specs.Plain.{carried_user, plain_user_packet, tx_size}
use Rattle.mqb_packet.proofs.Behind.{wrote_first, length_before, user_length}
use Rattle.mqb_packet.proofs.writing.put_user_packet.Goals as goal

pub put_session_behind-requires : goal.put_session_behind-requires
put_session_behind-requires c =
    let user = carried_user c.args.message.now c.args.carriage.now in
    let base =
    said _ (ap plain_base c.base_for-base.ensures)
    (wrote_first c.args.to.now c.put_base-head.new.to (plain_base c.base_for-base.result) c.put_base-head.result
    (omega (arith, c.requires.room, c.requires.size)) c.put_base-head.ensures.put c.put_base-head.ensures.len) in
    let front = base >> c.put_user_behind-tx.ensures >> c.put_tx_behind-props.ensures >> c.put_props_behind-session.ensures in
    let end : c.put_props_behind-session.result ≡ 0 + (16 + user_size user.message + tx_size user.tx + props_size user.message) =
    front.end ∙ ap (λ (n : ℕ). 0 + n) (length_before user) in
    omega (
      arith,
      end,
      c.requires.room,
      c.requires.size,
      c.put_base-head.auto.to,
      c.put_user_behind-tx.auto.to,
      c.put_tx_behind-props.auto.to,
      c.put_props_behind-session.auto.to,
    )

pub returns : goal.returns
returns c =
    let user = carried_user c.args.message.now c.args.carriage.now in
    let wrote =
    said _ (ap plain_base c.base_for-base.ensures)
    (wrote_first c.args.to.now c.put_base-head.new.to (plain_base c.base_for-base.result) c.put_base-head.result
    (omega (arith, c.requires.room, c.requires.size)) c.put_base-head.ensures.put c.put_base-head.ensures.len)
    >> c.put_user_behind-tx.ensures >> c.put_tx_behind-props.ensures >> c.put_props_behind-session.ensures >> c.put_session_behind.ensures in
    wrote.put ∙ put_all c.args.to.now (plain_user_packet user) (c.requires.room ∙ c.requires.size ∙ sym (user_length user))
