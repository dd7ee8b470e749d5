-- The digits of a tenth, and then the last digit.
use Rattle.writing.proofs.+put_number.Given as goal

abbrev pub decreases-put_number : goal.decreases-put_number
decreases-put_number l = l.v
