-- The number of each refusal. Assumes nothing.
use Rattle.std.specs.Prelude.{ℕ}
use Rattle.tables.specs.declared.Refusal.{Refusal}
use Rattle.tables.specs.declared.Refusal.TheVariants.{NotATable, TextTooLong, WrongId, NoRecordLeft, UnknownWord, BadOperand, NumberTooLarge, WrongClass, Misfit, InitOrNext, BadTable, TargetTooSmall, TooManySteps, StartWords, InputWords, SignalBytes, WorkArea, NoSuchCell, ArrayPresent, BadProgram, TextBuffer, NameUsed}

abbrev pub number_of : Refusal → ℕ
number_of NotATable = 1
number_of TextTooLong = 2
number_of WrongId = 3
number_of NoRecordLeft = 4
number_of UnknownWord = 5
number_of BadOperand = 6
number_of NumberTooLarge = 7
number_of WrongClass = 8
number_of Misfit = 9
number_of InitOrNext = 10
number_of BadTable = 11
number_of TargetTooSmall = 12
number_of TooManySteps = 13
number_of StartWords = 14
number_of InputWords = 15
number_of SignalBytes = 16
number_of WorkArea = 17
number_of NoSuchCell = 18
number_of ArrayPresent = 19
number_of BadProgram = 20
number_of TextBuffer = 21
number_of NameUsed = 22
