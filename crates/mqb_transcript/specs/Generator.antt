-- A script with orders in it.
use Rattle.std.specs.Prelude.{ℕ, ◌+◌, ◌-◌, ◌*◌, ◌/◌, ◌==◌, nat_le, Bool, List, [], ◌++◌}
use Rattle.std.specs.Prelude.{codes, if◌then◌else◌}
use Rattle.std.specs.List.{flat_map, range_with_len}
use Rattle.std.specs.Fmt.{decimal}
use Rattle.mqb_names.specs.Printed.{path}

-- a queue by its host
abbrev pub direct : List ℕ → List ℕ → List ℕ
direct host queue = codes "DIRECT=OS:" ++ host ++ path ++ queue

-- the replies of an order go here
abbrev pub replies : List ℕ
replies = direct (codes "alpha") (codes "replies")

-- an order: a send from alpha to beta with four days to reach its queue
unfoldable pub order_text : ℕ → List ℕ
order_text k = codes " send," ++ direct (codes "beta") (codes "orders") ++ codes ",345600,-,pn,"
    ++ replies ++ codes "," ++ replies ++ codes ",order-" ++ decimal k

-- it is one of n orders
unfoldable pub order_of : ℕ → ℕ → List ℕ
order_of n k = if nat_le k n then order_text k else []

-- each block has four orders, the last one what is left
abbrev pub block_count : ℕ → ℕ
block_count n = (n + 3) / 4

abbrev pub moment_of : ℕ → ℕ
moment_of block = 1000 + block

unfoldable pub commit_text : ℕ → ℕ → List ℕ
commit_text n block =
    codes "commit alpha " ++ decimal (moment_of block)
    ++ flat_map (order_of n) (range_with_len (4 * block - 3) 4) ++ codes "\n"

unfoldable pub connect_text : ℕ → List ℕ
connect_text moment = codes "connect alpha " ++ decimal moment ++ codes " 64 64\n"

-- where it is said, a line that ends the connection, and a new connection
unfoldable pub broken_text : Bool → List ℕ → ℕ → List ℕ
broken_text here line moment = if here then line ++ codes "\n" ++ connect_text moment else []

unfoldable pub flow_text : List ℕ → ℕ → List ℕ
flow_text host moment = codes "flow " ++ host ++ codes " " ++ decimal moment ++ codes "\n"

unfoldable pub flows_text : ℕ → List ℕ
flows_text moment = flow_text (codes "alpha") moment ++ flow_text (codes "beta") moment
    ++ flow_text (codes "alpha") moment

-- the lines that end the connection in a block, of which there are so many
unfoldable pub breaks_text : ℕ → ℕ → List ℕ
breaks_text count block =
    broken_text (block == count / 4 + 1) (codes "disconnect") (moment_of block)
    ++ broken_text (block == count / 2 + 1) (codes "restart alpha old") (moment_of block)
    ++ broken_text (block == 3 * count / 4 + 1) (codes "restart beta old") (moment_of block)
    ++ broken_text (block == count) (codes "disconnect") (moment_of block)

unfoldable pub block_text : ℕ → ℕ → List ℕ
block_text n block =
    commit_text n block ++ breaks_text (block_count n) block ++ flows_text (moment_of block)

abbrev pub head_text : List ℕ
head_text =
    codes "queue alpha replies plain 100000 none\nqueue beta orders tx 100000 none\nconnect alpha 1000 64 64\n"

-- the script of n orders
unfoldable pub generated : ℕ → List ℕ
generated n = head_text ++ flat_map (block_text n) (range_with_len 1 (block_count n))
