-- The word operators, by their names in BTOR2, and the one list that ties them to their kinds. Assumes nothing.
use Rattle.std.specs.Prelude.{ℕ, ◌-◌, List, [], ◌∷◌, get_or}

-- the overflow detectors
pub data Detector : Type 0 where
  uaddo saddo usubo ssubo umulo smulo sdivo : Detector

pub data Op : Type 0 where
  not neg inc dec redand redor redxor slice uext sext : Op
  eq neq ult ulte ugt ugte slt slte sgt sgte : Op
  iff implies and or xor nand nor xnor : Op
  add sub mul udiv urem sdiv srem smod : Op
  sll srl sra rol ror concat ite : Op
  mask : Op
  overflow : Detector → Op

-- kinds 11 to 63, in order. 56 is the mask; 54 and 55, read and write, are no word operators: nobody asks for theirs
abbrev pub ops : List Op
ops =
    not ∷ neg ∷ inc ∷ dec ∷ redand ∷ redor ∷ redxor ∷ slice ∷ uext ∷ sext
    ∷ eq ∷ neq ∷ ult ∷ ulte ∷ ugt ∷ ugte ∷ slt ∷ slte ∷ sgt ∷ sgte
    ∷ iff ∷ implies ∷ and ∷ or ∷ xor ∷ nand ∷ nor ∷ xnor
    ∷ add ∷ sub ∷ mul ∷ udiv ∷ urem ∷ sdiv ∷ srem ∷ smod
    ∷ sll ∷ srl ∷ sra ∷ rol ∷ ror ∷ concat ∷ ite
    ∷ mask ∷ mask ∷ mask
    ∷ overflow uaddo ∷ overflow saddo ∷ overflow usubo ∷ overflow ssubo ∷ overflow umulo ∷ overflow smulo ∷ overflow sdivo ∷ []

-- the operator of a kind from 11 on
abbrev pub op_of : ℕ → Op
op_of k = get_or ops (k - 11) mask
