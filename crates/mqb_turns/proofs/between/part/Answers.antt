use Rattle.std.proofs.Common.{◌≡◌, Bool, false, true, ap, rules, sym, ◌∙◌}
use Rattle.mqb_seats.specs.Stored.{same_stores}
use Rattle.mqb_seats.specs.Seats.{seated}
use Rattle.mqb_traffic.specs.Networks.{parted_where}
use Rattle.mqb_turns.proofs.Parting.{none_again, none_left, parted_so}
use Rattle.mqb_turns.proofs.between.part.Goals as goal

pub returns-then-not-end : goal.returns-then-not-end
returns-then-not-end c = let stood : c.end.result ≡ false = search rules in λ which. record {
  network = parted_so c.end.result c.args.own.now c.args.own.now c.args.other.now c.args.other.now c.args.traffic.now c.end.new.self c.end.ensures.ended
      (sym (ap (λ (b : Bool). parted_where b (seated c.args.own.now)) stood)) (sym (ap (λ (b : Bool). parted_where b (seated c.args.other.now)) stood)) which;
  none = none_left c.end.result c.args.own.now c.args.other.now c.args.traffic.now c.end.new.self c.end.ensures.ended which;
  again = none_again c.end.result c.args.own.now c.args.other.now c.args.traffic.now c.end.new.self c.end.ensures.ended which;
  own = same_stores c.args.own.now;
  beside = same_stores c.args.other.now;
}

pub returns : goal.returns
returns c = let stood : c.end.result ≡ true = search rules in λ which. record {
  network = parted_so c.end.result c.args.own.now c.part.new.self c.args.other.now c.part-2.new.self c.args.traffic.now c.end.new.self c.end.ensures.ended
      (c.part.ensures.left ∙ sym (ap (λ (b : Bool). parted_where b (seated c.args.own.now)) stood))
      (c.part-2.ensures.left ∙ sym (ap (λ (b : Bool). parted_where b (seated c.args.other.now)) stood)) which;
  none = none_left c.end.result c.part.new.self c.part-2.new.self c.args.traffic.now c.end.new.self c.end.ensures.ended which;
  again = none_again c.end.result c.part.new.self c.part-2.new.self c.args.traffic.now c.end.new.self c.end.ensures.ended which;
  own = c.part.ensures.stored;
  beside = c.part-2.ensures.stored;
}
