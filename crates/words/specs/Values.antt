-- The values at the edges: in a circuit the marked ones at width 3, and some at width 64; in a program values of words that have bits past their widths. Assumes nothing.
use Rattle.std.specs.Prelude.{ℕ, ◌≡◌, refl, List, [], ◌∷◌, map}
use Rattle.std.specs.Int.Count.{ones_in}
use Rattle.words.specs.Op.{Op, not, neg, inc, dec, redand, redor, redxor, slice, uext, sext, eq, neq, ult, slt, iff, implies, and, or, xor, nand, nor, xnor, add, sub, mul, udiv, urem, sdiv, srem, smod, sll, srl, sra, rol, ror, concat, ite, mask, Detector, uaddo, saddo, usubo, ssubo, umulo, smulo, sdivo, overflow}
use Rattle.words.specs.Circuit.{circ}
use Rattle.words.specs.Program.{prog}

-- an operator, its two operands and the result
pub record Row : Type 0 where
  pub op : Op
  pub a : ℕ
  pub b : ℕ
  pub result : ℕ

abbrev row : Op → ℕ → ℕ → ℕ → Row
row op a b r = record { op = op; a = a; b = b; result = r }

-- what the rows' operators give at width w, and what the rows say
abbrev pub computed : ℕ → List Row → List ℕ
computed w = map (λ (r : Row). circ r.op w w r.a r.b 0)

abbrev pub expected : List Row → List ℕ
expected = map (λ (r : Row). r.result)

abbrev pub marked_rows : List Row
marked_rows =
    row udiv 5 0 7 ∷ row urem 5 0 5
    ∷ row sdiv 4 7 4 ∷ row sdiv 5 0 1
    ∷ row srem 5 2 7
    ∷ row smod 5 2 1 ∷ row smod 3 6 7
    ∷ row sra 4 3 7 ∷ row sll 1 3 0 ∷ row rol 1 4 2
    ∷ row slt 4 3 1 ∷ row add 7 1 0 ∷ []

pub marked_values : computed 3 marked_rows ≡ expected marked_rows
marked_values = refl

abbrev pub wide : List Row
wide =
    row and 0xffff_0000_ffff_0001 0x0f0f_0f0f_0f0f_0f0f 0x0f0f_0000_0f0f_0001
    ∷ row xor 0xffff_ffff_ffff_ffff 1 0xffff_ffff_ffff_fffe
    ∷ row mul 0xffff_ffff_ffff_ffff 0xffff_ffff_ffff_ffff 1
    ∷ row sdiv 0x8000_0000_0000_0000 0xffff_ffff_ffff_ffff 0x8000_0000_0000_0000
    ∷ row smod 0x8000_0000_0000_0000 3 1
    ∷ row sll 1 0xffff_ffff_ffff_ffff 0
    ∷ row srl 1 0xffff_ffff_ffff_ffff 0
    ∷ row sra 0x8000_0000_0000_0000 0xffff_ffff_ffff_ffff 0xffff_ffff_ffff_ffff
    ∷ row rol 0x8000_0000_0000_0001 0xffff_ffff_ffff_fffd 0x3000_0000_0000_0000
    ∷ row redxor 0xffff_ffff_ffff_fffe 0 1 ∷ []

pub wide_values : computed 64 wide ≡ expected wide
unfolding ones_in
wide_values = refl

-- ---- overflow detectors, at the edges of widths 1, 3 and 64

abbrev pub detectors : List Detector
detectors = uaddo ∷ saddo ∷ usubo ∷ ssubo ∷ umulo ∷ smulo ∷ sdivo ∷ []

-- what all seven give at width w, in their order
abbrev pub detected : (w a b : ℕ) → List ℕ
detected w a b = map (λ (o : Detector). circ (overflow o) w w a b 0) detectors

pub overflow_values : detected 3 4 7 ∷ detected 3 2 2 ∷ detected 3 3 0 ∷ []
    ≡ (1 ∷ 1 ∷ 1 ∷ 0 ∷ 1 ∷ 1 ∷ 1 ∷ []) ∷ (0 ∷ 1 ∷ 0 ∷ 0 ∷ 0 ∷ 1 ∷ 0 ∷ []) ∷ (0 ∷ 0 ∷ 0 ∷ 0 ∷ 0 ∷ 0 ∷ 0 ∷ []) ∷ []
overflow_values = refl

-- signed at width 1, the words are 0 and -1
pub overflow_bits : detected 1 0 1 ∷ detected 1 1 0 ∷ detected 1 1 1 ∷ []
    ≡ (0 ∷ 0 ∷ 1 ∷ 1 ∷ 0 ∷ 0 ∷ 0 ∷ []) ∷ (0 ∷ 0 ∷ 0 ∷ 0 ∷ 0 ∷ 0 ∷ 0 ∷ []) ∷ (1 ∷ 1 ∷ 0 ∷ 0 ∷ 0 ∷ 1 ∷ 1 ∷ []) ∷ []
overflow_bits = refl

abbrev pub wide_detectors : List Row
wide_detectors =
    row (overflow umulo) 0x1_0000_0000 0x1_0000_0000 1
    ∷ row (overflow umulo) 0x1_0000_0000 0xffff_ffff 0
    ∷ row (overflow umulo) 6148914691236517205 3 0
    ∷ row (overflow umulo) 6148914691236517206 3 1
    ∷ row (overflow smulo) 0x8000_0000_0000_0000 1 0
    ∷ row (overflow smulo) 0x8000_0000_0000_0000 0xffff_ffff_ffff_ffff 1
    ∷ row (overflow smulo) 0x4000_0000_0000_0000 0xffff_ffff_ffff_fffe 0
    ∷ row (overflow smulo) 0x4000_0000_0000_0000 2 1
    ∷ row (overflow smulo) 3037000499 3037000499 0
    ∷ row (overflow smulo) 3037000500 3037000500 1
    ∷ row (overflow ssubo) 0 0x8000_0000_0000_0000 1
    ∷ row (overflow ssubo) 0xffff_ffff_ffff_ffff 0x8000_0000_0000_0000 0
    ∷ row (overflow sdivo) 0x8000_0000_0000_0000 0xffff_ffff_ffff_ffff 1
    ∷ row (overflow sdivo) 0x8000_0000_0000_0000 0 0 ∷ []

pub wide_overflows : computed 64 wide_detectors ≡ expected wide_detectors
wide_overflows = refl

-- ---- a program's words: a row is an operator, the widths of its first two operands, its three operands and the result

pub record ProgramRow : Type 0 where
  pub op : Op
  pub u : ℕ
  pub v : ℕ
  pub a : ℕ
  pub b : ℕ
  pub c : ℕ
  pub result : ℕ

abbrev program_row : Op → (u v a b c result : ℕ) → ProgramRow
program_row op u v a b c r = record { op = op; u = u; v = v; a = a; b = b; c = c; result = r }

abbrev pub loose_rows : List ProgramRow
loose_rows =
    -- "add, sub, mul, neg, inc and dec work on whole words modulo 2^64;"
    program_row add 3 3 7 1 0 8
    ∷ program_row add 3 3 0xffff_ffff_ffff_ffff 1 0 0
    ∷ program_row sub 3 3 0 1 0 0xffff_ffff_ffff_ffff
    ∷ program_row mul 3 3 5 5 0 25
    ∷ program_row neg 3 0 1 0 0 0xffff_ffff_ffff_ffff
    ∷ program_row inc 3 0 7 0 0 8
    ∷ program_row dec 3 0 0 0 0 0xffff_ffff_ffff_ffff
    -- "not, nand, nor, xnor, iff and implies flip all 64 bits;"
    ∷ program_row not 3 0 5 0 0 0xffff_ffff_ffff_fffa
    ∷ program_row nand 3 3 7 7 0 0xffff_ffff_ffff_fff8
    ∷ program_row nor 3 3 1 2 0 0xffff_ffff_ffff_fffc
    ∷ program_row xnor 3 3 5 4 0 0xffff_ffff_ffff_fffe
    ∷ program_row iff 1 1 1 1 0 0xffff_ffff_ffff_ffff
    ∷ program_row implies 1 1 1 0 0 0xffff_ffff_ffff_fffe
    -- "slice only shifts;": bits 3 to 1 of 255, and what lies above them
    ∷ program_row slice 8 64 255 3 1 127
    -- "sll and concat drop what passes bit 63;", "Shift limits stay at w; concat ors its low operand in."
    ∷ program_row sll 3 3 5 2 0 20
    ∷ program_row sll 3 3 0x8000_0000_0000_0001 1 0 2
    ∷ program_row sll 3 3 1 9 0 0
    ∷ program_row concat 32 32 0x1_0000_0001 5 0 0x1_0000_0005
    ∷ program_row concat 3 3 1 9 0 9
    -- "uext copies."
    ∷ program_row uext 3 64 13 2 0 13
    -- "sext, signed operations (sra too) and rotations read each operand's low bits, to its width, and give a result modulo 2^w;"
    ∷ program_row sext 3 64 13 2 0 29
    ∷ program_row slt 3 3 12 3 0 1
    ∷ program_row sdiv 3 3 12 15 0 4
    ∷ program_row srem 3 3 13 10 0 7
    ∷ program_row smod 3 3 13 10 0 1
    ∷ program_row sra 3 3 12 9 0 6
    ∷ program_row rol 3 3 9 12 0 2
    ∷ program_row ror 3 3 9 12 0 4
    -- "the rest read whole words."
    ∷ program_row redxor 3 0 11 0 0 1
    ∷ program_row eq 3 3 9 1 0 0
    ∷ program_row neq 3 3 9 1 0 1
    ∷ program_row ult 3 3 9 2 0 0
    ∷ program_row and 3 3 12 10 0 8
    ∷ program_row or 3 3 12 10 0 14
    ∷ program_row xor 3 3 12 10 0 6
    ∷ program_row udiv 3 3 13 2 0 6
    ∷ program_row udiv 3 3 13 8 0 1
    ∷ program_row udiv 3 3 13 0 0 7
    ∷ program_row urem 3 3 13 0 0 13
    ∷ program_row srl 3 3 13 1 0 6
    ∷ program_row srl 3 3 13 9 0 0
    -- "A signal byte, redor and an ite condition count as 1 when the whole word is not 0; redand is 1 when it is 2^w - 1."
    ∷ program_row redor 1 0 2 0 0 1
    ∷ program_row ite 1 3 2 9 4 9
    ∷ program_row redand 3 0 15 0 0 0
    ∷ program_row redand 3 0 7 0 0 1
    -- "kind 56 masks its operand to its width"
    ∷ program_row mask 3 0 13 0 0 5
    -- "a program reads the low w bits of each operand"
    ∷ program_row (overflow uaddo) 3 3 9 10 0 0
    ∷ program_row (overflow umulo) 3 3 9 10 0 0
    ∷ program_row (overflow uaddo) 3 3 15 15 0 1
    ∷ program_row (overflow umulo) 3 3 15 15 0 1
    ∷ program_row (overflow usubo) 3 3 2 8 0 0 ∷ []

pub loose_values : map (λ (r : ProgramRow). prog r.op r.u r.v r.a r.b r.c) loose_rows ≡ map (λ (r : ProgramRow). r.result) loose_rows
unfolding ones_in
loose_values = refl
