-- Laws of decode, for every address and both revisions; `proofs/` proves them. Assumes nothing.
use Rattle.std.specs.Prelude.{◌≡◌, Bool, true, false, ℕ, ◌+◌, ◌*◌, ◌/◌, ◌%◌, ◌<◌, Some, None}
use Rattle.registers.specs.declared.Register.TheVariants.{OfBank}
use Rattle.registers.specs.declared.BankRegister.TheVariants.{Chr}
use Rattle.registers.specs.Decode.{decode}

-- a CHR register that a write reaches is one of the eight (01, Banks and decode 1)
abbrev pub ChrLaw : Type 0
ChrLaw = (b : Bool) (address i : ℕ) → decode b address ≡ Some (OfBank (Chr i)) → i < 8

-- below $8000, $A003 and $F003 nothing happens; both lines are 1 there, so on either revision (01, Banks and decode 1)
pub record NothingLaw : Type 0 where
  pub low : (b : Bool) (address : ℕ) → address < 0x8000 → decode b address ≡ None
  pub a003 : (b : Bool) (address : ℕ) → address / 4096 ≡ 0xA → address % 4 ≡ 3 → decode b address ≡ None
  pub f003 : (b : Bool) (address : ℕ) → address / 4096 ≡ 0xF → address % 4 ≡ 3 → decode b address ≡ None

-- an address with bits 0 and 1 exchanged
abbrev pub exchanged : (address : ℕ) → ℕ
exchanged a = a / 4 * 4 + a % 2 * 2 + a / 2 % 2

-- revision B is revision A with address lines 0 and 1 exchanged (01, Banks and decode 1; iNES mappers 024 and 026)
abbrev pub SwapLaw : Type 0
SwapLaw = (address : ℕ) → decode true address ≡ decode false (exchanged address)
