-- What a pump of the manager in a seat comes to.
use Rattle.std.proofs.Common.{◌≡◌, ◌==◌, ℕ, Bool, false, cond, List, [], ◌∷◌, ◌++◌, Result, Ok, Err, sym, ap, subst, ◌∙◌}
use Rattle.std.proofs.lemmas.List.Elements.{recursion_from_All}
use Rattle.std.specs.List.{AllByRecursion}
use Rattle.std.specs.Prelude.{All, IfErr, OnErr, OnOk, flat_map, not}
use Rattle.mqb_outside.specs.Disk.{View}
use Rattle.mqb_moves.specs.Calls.{IsCall}
use Rattle.mqb_moves.specs.States.{ManagerState, manager_of}
use Rattle.mqb_model.specs.calls.hear.Hear.{IsReadable}
use Rattle.mqb_model.specs.calls.pump.Pump.{pump}
use Rattle.mqb_model.specs.declared.faults.PumpFault.{PumpFault}
use Rattle.mqb_model.specs.declared.faults.PumpFault.TheVariants as pumps
use Rattle.mqb_model.specs.laws.Fitting.{PumpedIsReadable}
use Rattle.mqb_model.specs.laws.Refusals.{RefusalsChangeNothing}
use Rattle.mqb_model.specs.managers.Manager.{Manager, is_down}
use Rattle.mqb_model.specs.managers.Outcomes.{answering}
use Rattle.mqb_model.specs.managers.Valid.{IsValidManager}
use Rattle.mqb_moves.specs.Seats.{SeatState, seated}
use Rattle.mqb_packet.specs.Plain.{plain_spelling}
use Rattle.mqb_packet.specs.Values.{IsPacket}
use Rattle.mqb_packet.specs.declared.packet.Packet.{Packet}
use Rattle.mqb_posts.specs.Packets.{AreWritable}
use Rattle.mqb_replies.specs.declared.faults.AnswerFault.{AnswerFault}
use Rattle.mqb_replies.specs.declared.faults.AnswerFault.TheVariants as answer
use Rattle.mqb_transcript.specs.declared.replies.Reply.{Reply}
use Rattle.mqb_seats.proofs.Telling.{call_failed, call_went, seat_is}
use Rattle.mqb_seats.specs.Pumped.{IsPumped, SpellPumped, TellsPumped, pump_fault_reply}
use Rattle.mqb_seats.specs.declared.packets.Pumped.{Pumped}
use Rattle.mqb_seats.specs.declared.packets.Pumped.TheVariants as pumped

-- packets that can be heard, and whose numbers fit, can be written
writable : (ps : List Packet) → AllByRecursion IsReadable ps → AllByRecursion IsPacket ps → AreWritable ps
writable [] readable fit = tt
writable (p ∷ ps) readable fit = (
  record { well_formed = readable.0.well_formed; numbers = fit.0; size = readable.0.size },
  writable ps readable.1 fit.1,
)

errs : (f g : PumpFault) → ◌≡◌ {A = Result ℕ PumpFault} (Err f) (Err g) → f ≡ g
errs f g same = cc

ok_errs : (count : ℕ) (f : PumpFault) → ◌≡◌ {A = Result ℕ PumpFault} (Ok count) (Err f) → ⊥
ok_errs count f same = let none : ⊥ = cc in none

-- want of memory is no reply, and neither is a disk that failed
no_reply : (fault : AnswerFault) (given : Reply) → ◌≡◌ {A = Result Reply AnswerFault} (Err fault) (Ok given) → ⊥
no_reply fault given same = let none : ⊥ = cc in none

told_rich : (why : PumpFault) (given : Reply) → pump_fault_reply why ≡ Ok given → why ≡ pumps.Memory → ⊥
told_rich why given told is = no_reply answer.Memory given (subst (λ (w : PumpFault). pump_fault_reply w ≡ Ok given) is told)

told_whole : (why : PumpFault) (given : Reply) → pump_fault_reply why ≡ Ok given → why ≡ pumps.DiskFault → ⊥
told_whole why given told is = no_reply answer.DiskFault given (subst (λ (w : PumpFault). pump_fault_reply w ≡ Ok given) is told)

module _ (d e : View) (m n : ManagerState) (u stopped : Bool) (s : SeatState) (is : record { manager = m; unread = u } ≡ s) (up : is_down (seated s) ≡ false) where
  abbrev after : SeatState
  after = record { manager = n; unread = u }

  -- it went, or was refused, or its disk failed
  pub pump_told : RefusalsChangeNothing → (now : ℕ) (r : Result ℕ PumpFault) → IsCall pumps.Memory pumps.DiskFault d e m n (pump (manager_of m) now) r
      → ((k : Manager) → (pump k now).answer ≡ Err pumps.DiskFault → ⊥) → (before : ℕ) → before ≡ m.store.journal.count
      → (q : Pumped) → TellsPumped stopped r (not (n.store.journal.count == before)) q → IsPumped d e stopped s after (pump (seated s) now) q
  pump_told law now r call never before counted (pumped.Went count told) (is_so, recorded) =
      let went = call_went d e m n u stopped s is up pumps.Memory pumps.DiskFault (λ k. pump k now) r call (λ x. ok_errs count pumps.Memory (sym is_so ∙ x)) (λ x. ok_errs count pumps.DiskFault (sym is_so ∙ x)) in
      (went.0, sym went.1 ∙ is_so, ap (λ (b : Bool). cond b n.store.lines []) recorded ∙ went.2 before counted)
  pump_told law now r call never before counted (pumped.Refused given) (why, is_so, told) =
      let went = call_went d e m n u stopped s is up pumps.Memory pumps.DiskFault (λ k. pump k now) r call
      (λ x. told_rich why given told (errs why pumps.Memory (sym is_so ∙ x))) (λ x. told_whole why given told (errs why pumps.DiskFault (sym is_so ∙ x))) in (
        went.0,
        record {
          why = why;
          unchanged = subst (λ (q : Result ℕ PumpFault). IfErr q (λ fault. pump (seated s) now ≡ answering (seated s) (Err fault))) (sym went.1 ∙ is_so) ((law (seated s)).pump_whole now).refused;
          told = told;
        },
      )
  pump_told law now r call never before counted (pumped.Broke how) (failed, stops) = (
    call_failed d e m n u stopped s is up pumps.Memory pumps.DiskFault (λ k. pump k now) r how call (λ x. let none : ⊥ = cc in none) never failed,
    stops,
  )

  -- what it added are the plain spellings of the packets that went
  pub pump_spelled : PumpedIsReadable → IsValidManager (seated s) → (now : ℕ) (r : Result ℕ PumpFault) (out : List ℕ)
      → OnOk r (out ≡ [] ++ flat_map plain_spelling (pump (manager_of m) now).packets) → OnOk r (All IsPacket (pump (manager_of m) now).packets) → OnErr r (out ≡ [])
      → (recorded : Bool) (q : Pumped) → TellsPumped stopped r recorded q → SpellPumped (pump (seated s) now) out q
  pump_spelled law valid now r out sent fit refused recorded (pumped.Went count told) (is_so, _) =
      subst (λ (k : SeatState). SpellPumped (pump (seated k) now) out (pumped.Went count told)) (seat_is d e m n u stopped s is up) (record {
        writable = writable packets (recursion_from_All IsReadable packets (law (manager_of m) (subst (λ (k : SeatState). IsValidManager (seated k)) (sym (seat_is d e m n u stopped s is up)) valid) now))
            (recursion_from_All IsPacket packets (subst (λ (q : Result ℕ PumpFault). OnOk q (All IsPacket packets)) is_so fit));
        are = subst (λ (q : Result ℕ PumpFault). OnOk q (out ≡ flat_map plain_spelling packets)) is_so sent;
      })
    where
      packets : List Packet
      packets = (pump (manager_of m) now).packets
  pump_spelled law valid now r out sent fit refused recorded (pumped.Refused given) (why, is_so, _) = record {
    writable = tt;
    are = subst (λ (q : Result ℕ PumpFault). OnErr q (out ≡ [])) is_so refused;
  }
  pump_spelled law valid now r out sent fit refused recorded (pumped.Broke how) (failed, _) = record {
    writable = tt;
    are = subst (λ (q : Result ℕ PumpFault). OnErr q (out ≡ [])) failed refused;
  }
