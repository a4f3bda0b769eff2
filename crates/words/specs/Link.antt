-- The configuration of a link, and the storage that it needs (document 01, "The two machines").
-- Assumes nothing.
use Rattle.std.specs.Prelude.{ℕ, Bool, cond, not, ◌&&◌, ◌||◌, List, [], ◌∷◌, Result, Ok, Err, ◌==◌, nat_le, nat_lt}
use Rattle.words.specs.Refusal.{numbers_of}
use Rattle.words.specs.declared.refusal.Refusal.{Refusal}
use Rattle.words.specs.declared.refusal.Refusal.TheVariants.{BadConfiguration}
use Rattle.words.specs.declared.link.Link.{Link}
use Rattle.words.specs.declared.link.Mode.{Mode}
use Rattle.words.specs.declared.link.Mode.TheVariants.{Zero, One}
use Rattle.words.specs.declared.link.Settings.{Settings}

-- mode 0: subaddress 11 and 1024 bytes; mode 1: subaddress 11 to 26, and 1024 or 4096 bytes
unfoldable pub mode_allows : ℕ → ℕ → ℕ → Bool
mode_allows mode subaddress largest =
    cond (mode == 0)
    (subaddress == 11 && largest == 1024)
    (mode == 1 && (nat_le 11 subaddress && (nat_le subaddress 26 && (largest == 1024 || largest == 4096))))

-- addresses 0 to 30, a window of 2 to 16 frames
unfoldable pub in_ranges : Settings → Bool
in_ranges s = nat_le s.address 30 && (nat_le 2 s.window && (nat_le s.window 16 && mode_allows s.mode s.subaddress s.largest))

-- 20: a configuration outside the ranges
unfoldable pub configure_of : Settings → Result Link Refusal
configure_of s =
    cond (not (in_ranges s))
    (Err BadConfiguration)
    (Ok (record { address = s.address; mode = s.mode; subaddress = s.subaddress; largest = s.largest; window = s.window }))

-- a link not set up: address 31 is no terminal's
abbrev pub no_link : Link
no_link = record { address = 31; mode = 0; subaddress = 0; largest = 0; window = 0 }

-- a link's numbers as a caller would give them
abbrev pub settings_of : Link → Settings
settings_of link =
    record { address = link.address; mode = link.mode; subaddress = link.subaddress; largest = link.largest; window = link.window }

unfoldable pub configured_of : Link → Bool
configured_of link = in_ranges (settings_of link)

-- any number but 0 is taken as 1
abbrev pub mode_of : Link → Mode
mode_of link = cond (link.mode == 0) Zero One

-- 1: link not configured, or less lent than it needs
unfoldable pub short_of : Link → ℕ → ℕ → Bool
short_of link needed lent = not (configured_of link) || nat_lt lent needed

-- a receiver's message store: 1024 bytes in mode 0 and 4096 in mode 1
unfoldable pub message_store_of : Link → ℕ
message_store_of link = cond (link.mode == 0) 1024 4096

-- a sender's block store, and a receiver's hand: the link's largest block
unfoldable pub block_store_of : Link → ℕ
block_store_of link = link.largest

-- the five numbers
abbrev pub link_numbers : Link → List ℕ
link_numbers link = link.address ∷ link.mode ∷ link.subaddress ∷ link.largest ∷ link.window ∷ []

-- the paper's number, 0 for accepted, and the five numbers
abbrev pub configuring_numbers : Result Link Refusal → List ℕ
configuring_numbers answer = numbers_of link_numbers answer
