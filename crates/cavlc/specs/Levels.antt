-- H.264, 9.2.2: the signs of the trailing ones, and the levels behind them.
use Rattle.std.specs.Prelude.{◌≡◌, ◌≢◌, ℕ, zero, suc, ◌+◌, ◌-◌, ◌*◌, ◌/◌, ◌%◌, ◌^◌, ◌<◌, ◌≤◌, ◌==◌, max, nat_lt, Bool, true, false, ◌&&◌, if◌then◌else◌, List, ◌∷◌, ◌++◌, drop, map, replicate, take, ℤ, pos, negsuc, unsigned_abs}
use Rattle.bit_io.specs.Bits.{u}
use Rattle.cavlc.specs.declared.levels.LevelState.{LevelState}
use Rattle.cavlc.specs.declared.levels.LevelWord.{LevelWord}
use Rattle.cavlc.specs.Turns.{AreInTurn, in_turn}

-- trailing_ones_sign_flag: 1 is minus
abbrev pub sign : ℤ → Bool
sign (pos n) = false
sign (negsuc n) = true

-- levelCode: 1, -1, 2, -2 and so on have the numbers 0, 1, 2, 3
abbrev pub level_code : ℤ → ℕ
level_code (pos n) = 2 * n - 2
level_code (negsuc n) = 2 * n + 1

-- the first code that has level_prefix 15
abbrev pub escape : ℕ → ℕ
escape zero = 30
escape (suc n) = 15 * 2 ^ suc n

-- at suffixLength 0 the prefix is the code, but from 14 on it is 14, with a suffix of 4 bits
abbrev pub word_of_prefix : ℕ → LevelWord
word_of_prefix code = if nat_lt code 14 then record { prefix = code; size = 0; suffix = 0 } else record { prefix = 14; size = 4; suffix = code - 14 }

-- else the suffix is the code's suffixLength low bits
abbrev pub word_of_both : ℕ → ℕ → LevelWord
word_of_both suffix_length code = record { prefix = code / 2 ^ suffix_length; size = suffix_length; suffix = code % 2 ^ suffix_length }

-- level_prefix and level_suffix of a code: prefix 15 has a suffix of 12 bits
unfoldable pub level_word : ℕ → ℕ → LevelWord
level_word suffix_length code =
    if nat_lt code (escape suffix_length)
    then (if suffix_length == 0 then word_of_prefix code else word_of_both suffix_length code)
    else record { prefix = 15; size = 12; suffix = code - escape suffix_length }

-- The prefix is as many zeros and a 1.
unfoldable pub word_bits : LevelWord → List Bool
word_bits word = replicate word.prefix false ++ true ∷ u word.suffix word.size

-- A level's bits: what is spelled is its levelCode less the least that it can be.
unfoldable pub level_bits : LevelState → ℤ → List Bool
level_bits state level = word_bits (level_word state.suffix_length (level_code level - state.least))

-- The level has a code: with level_prefix 15 the suffix ends at 2 ^ 12, and there is no greater prefix.
pub record HasLevelCode (state : LevelState) (level : ℤ) : Type 0 where
  pub nonzero : level ≢ pos 0
  pub least : state.least ≤ level_code level
  pub prefix : level_code level - state.least < escape state.suffix_length + 2 ^ 12

-- The first level behind the trailing ones: where these are fewer than three it isn't 1 or -1, whose levelCodes are 0 and 1.
abbrev pub first_level : ℕ → ℕ → LevelState
first_level total ones = record {
  suffix_length = if nat_lt 10 total && nat_lt ones 3 then 1 else 0;
  least = if nat_lt ones 3 then 2 else 0;
}

-- suffixLength behind a level: at least 1, and one more behind a level of more than 3 * 2 ^ (suffixLength - 1), up to 6
abbrev pub suffix_length_behind : ℕ → ℤ → ℕ
suffix_length_behind suffix_length level =
    let now = max 1 suffix_length in if nat_lt now 6 && nat_lt (3 * 2 ^ (now - 1)) (unsigned_abs level) then now + 1 else now

abbrev pub next_level : LevelState → ℤ → LevelState
next_level state level = record { suffix_length = suffix_length_behind state.suffix_length level; least = 0 }

-- the signs of so many trailing ones, and the levels behind them
unfoldable pub levels_bits : ℕ → ℕ → List ℤ → List Bool
levels_bits total ones levels = map sign (take ones levels) ++ in_turn level_bits next_level (first_level total ones) (drop ones levels)

-- The levels behind so many trailing ones have codes.
abbrev pub HaveLevelCodes : ℕ → ℕ → List ℤ → Type 0
HaveLevelCodes total ones levels = AreInTurn HasLevelCode next_level (first_level total ones) (drop ones levels)

-- The other direction, as 9.2.2.1 has it.

-- how many bits level_suffix has: levelSuffixSize
abbrev pub suffix_size : ℕ → ℕ → ℕ
suffix_size prefix suffix_length = if prefix == 15 then 12 else (if prefix == 14 && (suffix_length == 0) then 4 else suffix_length)

-- the code that level_prefix and level_suffix give
abbrev pub word_code : ℕ → ℕ → ℕ → ℕ
word_code prefix suffix suffix_length = prefix * 2 ^ suffix_length + suffix + (if prefix == 15 && (suffix_length == 0) then 15 else 0)

-- what can be read
pub record IsLevelWord (suffix_length : ℕ) (word : LevelWord) : Type 0 where
  pub prefix_fits : word.prefix ≤ 15
  pub size_is : word.size ≡ suffix_size word.prefix suffix_length
  pub suffix_fits : word.suffix < 2 ^ word.size
