-- Reclaims: what is live of the oldest block is copied to the end of the log, and the block is given back. z are the
-- sizes of the volume, c the cleared bits of its tally, and q its claimed slots.
use Rattle.std.specs.Prelude.{◌≡◌, ℕ, ◌+◌, ◌-◌, ◌<◌, ◌≤◌, true, false, Ok, Err, Result}
use Rattle.chip.specs.declared.Fault.{Fault}
use Rattle.chip.specs.Flash.{Flash}
use Rattle.chip.specs.Plans.{Performs}
use Rattle.label.specs.declared.Sizes.{Sizes}
use Rattle.ring.specs.Tally.{tally_bits}
use Rattle.ring.specs.Places.{positions, sector_at, page_at}
use Rattle.ring.specs.Logs.{is_live, log_of}
use Rattle.laid.specs.Writing.{copying, freeing}
use Rattle.laid.specs.Sane.{Readable}

-- position i of the image m is copied to position p
abbrev pub Copies : Flash → Sizes → ℕ → ℕ → ℕ → Result (Unit {0}) Fault → Flash → Type 0
Copies m z c i p r t = Readable m z c i × Performs (copying z c p (sector_at m z c i) (page_at m z c i)) m r t

-- of the first i positions of s, those that are live are copied, in order: k of them, and the image is then m
pub data Moves (s : Flash) (z : Sizes) (c q : ℕ) : ℕ → ℕ → Flash → Type 0 where
  none : Moves s z c q 0 0 s
  skip : {i k : ℕ} {m : Flash} → Moves s z c q i k m → i < 7 → is_live (log_of s z c q) i ≡ false → Moves s z c q (i + 1) k m
  copy : {i k : ℕ} {m n : Flash} → Moves s z c q i k m → i < 7 → is_live (log_of s z c q) i ≡ true → Copies m z c i (q + k) (Ok tt) n → Moves s z c q (i + 1) (k + 1) n

-- one reclaim: Ok has the claimed slots after it
pub data Reclaims (s : Flash) (z : Sizes) (c q : ℕ) : Result ℕ Fault → Flash → Type 0 where
  done : {k : ℕ} {m t : Flash} → Moves s z c q 7 k m → Performs (freeing z c) m (Ok tt) t → Reclaims s z c q (Ok (q + k - 7)) t
  copy_cut : {i k : ℕ} {m t : Flash} {f : Fault} → Moves s z c q i k m → i < 7 → is_live (log_of s z c q) i ≡ true → Copies m z c i (q + k) (Err f) t → Reclaims s z c q (Err f) t
  free_cut : {k : ℕ} {m t : Flash} {f : Fault} → Moves s z c q 7 k m → Performs (freeing z c) m (Err f) t → Reclaims s z c q (Err f) t

-- what comes of making room: it is there, or the tally is spent, with the cleared bits and claimed slots then
pub data Room : Type 0 where
  made : ℕ → ℕ → Room
  spent : ℕ → ℕ → Room

-- reclaims, one after another, while fewer than n slots are unclaimed
pub data Rooms (n : ℕ) (z : Sizes) : Flash → ℕ → ℕ → Result Room Fault → Flash → Type 0 where
  enough : {s : Flash} {c q : ℕ} → n ≤ positions z c - q → Rooms n z s c q (Ok (made c q)) s
  no_bits : {s : Flash} {c q : ℕ} → positions z c - q < n → tally_bits z.tally ≤ c → Rooms n z s c q (Ok (spent c q)) s
  round : {s m t : Flash} {c q u : ℕ} {r : Result Room Fault} → positions z c - q < n → c < tally_bits z.tally → Reclaims s z c q (Ok u) m → Rooms n z m (c + 2) u r t → Rooms n z s c q r t
  cut : {s t : Flash} {c q : ℕ} {f : Fault} → positions z c - q < n → c < tally_bits z.tally → Reclaims s z c q (Err f) t → Rooms n z s c q (Err f) t
