-- The text of a run.
use Rattle.std.specs.Prelude.{◌++◌, List, Some, codes, flat_map, if◌then◌else◌}
use Rattle.mqb_listing.specs.Listing.{listing}
use Rattle.mqb_model.specs.managers.Manager.{Manager, is_down}
use Rattle.mqb_network.specs.Network.{Network, manager_at}
use Rattle.mqb_script.specs.Managers.{host_of}
use Rattle.mqb_script.specs.declared.managers.Which.{Which}
use Rattle.mqb_script.specs.declared.managers.Which.TheVariants.{Alpha, Beta}
use Rattle.mqb_turns.specs.mqb_traffic.Networks.{index_of}
use Rattle.mqb_transcript.specs.Texts.{printed}
use Rattle.mqb_runs.specs.Hosts.{hosts}
use Rattle.mqb_runs.specs.Runs.{Played, course_of}
use Rattle.std.specs.Prelude.{ℕ}

-- the line of a reply
abbrev pub reply_line : Played → List ℕ
reply_line p = printed hosts (Some p.line) p.reply

abbrev pub reply_lines : List Played → List ℕ
reply_lines ps = flat_map reply_line ps

-- the lines of a manager: what it holds, or that it is down
abbrev pub manager_lines : Which → Manager → List ℕ
manager_lines which m = if is_down m then host_of which ++ codes " down\n" else listing m.state

-- the lines of both, at the end
abbrev pub end_lines : Network → List ℕ
end_lines n = codes "end\n" ++ manager_lines Alpha (manager_at n (index_of Alpha))
    ++ manager_lines Beta (manager_at n (index_of Beta))

-- a line for each event, and then what the managers hold
abbrev pub text_of : List Played → List ℕ
text_of ps = reply_lines ps ++ end_lines (course_of ps).network
