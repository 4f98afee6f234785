-- What the code's answers say, case by case.
use Rattle.words.specs.Kind.{Kind, taken_block, taken_plain, taken_choice, skipped_block, skipped_plain, listed_only, unlisted}
use Rattle.words.specs.declared.class.Class.{Class}
use Rattle.words.specs.declared.class.Class.TheVariants.{TakenBlock, TakenPlain, TakenChoice, SkippedBlock, SkippedPlain, ListedOnly, Unlisted}

abbrev pub told_class : Class → Kind
told_class (TakenBlock c) = taken_block c
told_class (TakenPlain c) = taken_plain c
told_class (TakenChoice c) = taken_choice c
told_class (SkippedBlock c) = skipped_block c
told_class (SkippedPlain c) = skipped_plain c
told_class ListedOnly = listed_only
told_class Unlisted = unlisted
