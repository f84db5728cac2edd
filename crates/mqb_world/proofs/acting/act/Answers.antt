use Rattle.mqb_moves.specs.lemmas.Stored.{same_stores}
use Rattle.mqb_turns.specs.mqb_seats.lemmas.Keeping.{lasts_held, lasts_same, lasts_stored}
use Rattle.mqb_turns.specs.Sides.{side}
use Rattle.mqb_world.proofs.Actions.{acted_as, call_acted, call_left, call_switch, checkpoint_is, disconnect_acted, disconnect_is, if_ok, is_call, ok_is_full, pump_acted, pump_is, resend_acted, resend_is, restart_is, rewrite_acted, start_acted}
use Rattle.mqb_world.proofs.acting.act.Goals as goal

pub returns-in-Disconnect-clause-acted : goal.returns-in-Disconnect-clause-acted
returns-in-Disconnect-clause-acted g c = let x = side c.args.own.now c.args.other.now c.args.traffic.now in
    let y = side c.disconnect.new.own c.disconnect.new.other c.disconnect.new.traffic in
    acted_as c.args.which x y _ _ _ _ _ c.disconnect.result c.args.event.now _ (disconnect_is c.args.which _ c.args.event.now c.in-Disconnect.is c.requires.acts)
    (disconnect_acted c.args.which x y _ c.requires.within c.disconnect.result _ _ c.requires.held (c.disconnect.ensures c.args.which))

pub returns-in-Resend-clause-acted : goal.returns-in-Resend-clause-acted
returns-in-Resend-clause-acted g c = let x = side c.args.own.now c.args.other.now c.args.traffic.now in
    let y = side c.resend.new.own c.args.other.now c.args.traffic.now in
    acted_as c.args.which x y _ _ _ _ _ c.resend.result c.args.event.now _ (resend_is c.args.which _ c.args.event.now c.in-Resend.is c.requires.acts)
    (resend_acted c.args.which x y _ c.requires.within c.resend.result _ _ c.requires.held (c.resend.ensures c.args.which))

pub returns-in-Pump-clause-acted : goal.returns-in-Pump-clause-acted
returns-in-Pump-clause-acted g c = let x = side c.args.own.now c.args.other.now c.args.traffic.now in
    let y = side c.pump.new.own c.pump.new.other c.pump.new.traffic in
    if_ok c.pump.result (λ given t. acted_as c.args.which x y _ _ _ _ _ given c.args.event.now _ (pump_is c.args.which _ _ c.args.event.now c.in-Pump.is c.requires.acts)
    (pump_acted c.args.which x y _ _ _ given _ _ _ c.requires.held t)) c.pump.ensures.turn

pub returns-in_ok-restart-in-Restart-clause-acted : goal.returns-in_ok-restart-in-Restart-clause-acted
returns-in_ok-restart-in-Restart-clause-acted g c = let x = side c.args.own.now c.args.other.now c.args.traffic.now in
    let y = side c.restart.new.own c.restart.new.other c.restart.new.traffic in
    acted_as c.args.which x y _ _ _ _ _ c.in_ok-restart-in-Restart.field-0 c.args.event.now _ (restart_is c.args.which _ _ c.args.event.now c.in-Restart.is c.requires.acts)
    (start_acted c.args.which x y _ _ c.requires.within c.in_ok-restart-in-Restart.field-0 _ _ _ (c.in_ok-restart-in-Restart.ensures {u = tt}).turn)

pub returns-in_ok-checkpoint-in-Checkpoint-clause-acted : goal.returns-in_ok-checkpoint-in-Checkpoint-clause-acted
returns-in_ok-checkpoint-in-Checkpoint-clause-acted g c = let x = side c.args.own.now c.args.other.now c.args.traffic.now in
    let y = side c.checkpoint.new.own c.checkpoint.new.other c.checkpoint.new.traffic in
    acted_as c.args.which x y _ _ _ _ _ c.in_ok-checkpoint-in-Checkpoint.field-0 c.args.event.now _ (checkpoint_is c.args.which _ c.args.event.now c.in-Checkpoint.is c.requires.acts)
    (rewrite_acted c.args.which x y _ c.requires.within c.in_ok-checkpoint-in-Checkpoint.field-0 _ _ _ c.requires.held (c.in_ok-checkpoint-in-Checkpoint.ensures {u = tt}).turn)

pub returns-in_ok-call_own-in_default : goal.returns-in_ok-call_own-in_default
returns-in_ok-call_own-in_default g c = let x = side c.args.own.now c.args.other.now c.args.traffic.now in
    let y = side c.call_own.new.own c.call_own.new.other c.call_own.new.traffic in
    let call = is_call c.args.which c.args.event.now c.in_default.not-Disconnect c.in_default.not-Resend c.in_default.not-Drop c.in_default.not-Pump c.in_default.not-Arm c.in_default.not-Restart
    c.in_default.not-Checkpoint c.requires.acts in
    record {
      acted = call_acted c.args.which x y c.args.event.now _ c.requires.within c.in_ok-call_own-in_default.field-0 call _ _ _ c.requires.held (c.in_ok-call_own-in_default.ensures {u = tt}).turn;
      short = tt;
      switch = call_switch c.args.which c.args.event.now call _ _ _ c.call_own.ensures.switch;
      left = call_left c.args.which c.args.event.now call _;
      lasts = c.call_own.ensures.lasts;
      beside = c.call_own.ensures.beside;
      full = λ is. absurd (ok_is_full c.in_ok-call_own-in_default.field-0 is);
    }

pub returns-in-Disconnect-clause-lasts : goal.returns-in-Disconnect-clause-lasts
returns-in-Disconnect-clause-lasts g c = lasts_stored c.requires.held (c.disconnect.ensures c.args.which).own

pub returns-in-Disconnect-clause-beside : goal.returns-in-Disconnect-clause-beside
returns-in-Disconnect-clause-beside g c = (c.disconnect.ensures c.args.which).beside

pub returns-in-Resend-clause-lasts : goal.returns-in-Resend-clause-lasts
returns-in-Resend-clause-lasts g c = lasts_stored c.requires.held (c.resend.ensures c.args.which).own

pub returns-in-Resend-clause-beside : goal.returns-in-Resend-clause-beside
returns-in-Resend-clause-beside g c = same_stores c.args.other.now

pub returns-in-Drop-clause-lasts : goal.returns-in-Drop-clause-lasts
returns-in-Drop-clause-lasts g c = lasts_same c.requires.held

pub returns-in-Drop-clause-beside : goal.returns-in-Drop-clause-beside
returns-in-Drop-clause-beside g c = same_stores c.args.other.now

pub returns-in-Arm-clause-lasts : goal.returns-in-Arm-clause-lasts
returns-in-Arm-clause-lasts g c = lasts_held c.arm.ensures.held c.arm.ensures.faults

pub returns-in-Arm-clause-beside : goal.returns-in-Arm-clause-beside
returns-in-Arm-clause-beside g c = same_stores c.args.other.now

pub returns-in_err-call_own-in_default-clause-left : goal.returns-in_err-call_own-in_default-clause-left
returns-in_err-call_own-in_default-clause-left g c = call_left c.args.which c.args.event.now (is_call c.args.which c.args.event.now c.in_default.not-Disconnect c.in_default.not-Resend c.in_default.not-Drop
    c.in_default.not-Pump c.in_default.not-Arm c.in_default.not-Restart c.in_default.not-Checkpoint c.requires.acts) _
