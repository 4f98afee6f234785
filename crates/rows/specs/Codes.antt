-- The codes of the words that the grammar names, as the crate words numbers them (proofs/CodesAre.antt computes that they are).
use Rattle.std.specs.Prelude.{ℕ}

-- no block: what stands before PROJECT
abbrev pub FILE : ℕ
FILE = 0

-- any block: the keywords that may stand wherever an optional keyword may
abbrev pub ANY : ℕ
ANY = 255

-- keywords
abbrev pub PROJECT : ℕ
PROJECT = 1

abbrev pub MODULE : ℕ
MODULE = 2

abbrev pub MOD-COMMON : ℕ
MOD-COMMON = 3

abbrev pub COMPU-METHOD : ℕ
COMPU-METHOD = 4

abbrev pub COMPU-VTAB : ℕ
COMPU-VTAB = 5

abbrev pub RECORD-LAYOUT : ℕ
RECORD-LAYOUT = 6

abbrev pub AXIS-PTS : ℕ
AXIS-PTS = 7

abbrev pub CHARACTERISTIC : ℕ
CHARACTERISTIC = 8

abbrev pub AXIS-DESCR : ℕ
AXIS-DESCR = 9

abbrev pub MEASUREMENT : ℕ
MEASUREMENT = 10

abbrev pub COEFFS-LINEAR : ℕ
COEFFS-LINEAR = 11

abbrev pub COEFFS : ℕ
COEFFS = 12

abbrev pub COMPU-TAB-REF : ℕ
COMPU-TAB-REF = 13

abbrev pub AXIS-PTS-REF : ℕ
AXIS-PTS-REF = 14

abbrev pub NUMBER : ℕ
NUMBER = 15

abbrev pub ECU-ADDRESS : ℕ
ECU-ADDRESS = 16

abbrev pub FNC-VALUES : ℕ
FNC-VALUES = 17

abbrev pub AXIS-PTS-X : ℕ
AXIS-PTS-X = 18

abbrev pub AXIS-PTS-Y : ℕ
AXIS-PTS-Y = 19

abbrev pub NO-AXIS-PTS-X : ℕ
NO-AXIS-PTS-X = 20

abbrev pub NO-AXIS-PTS-Y : ℕ
NO-AXIS-PTS-Y = 21

abbrev pub BYTE-ORDER : ℕ
BYTE-ORDER = 22

abbrev pub ALIGNMENT-BYTE : ℕ
ALIGNMENT-BYTE = 23

abbrev pub ALIGNMENT-WORD : ℕ
ALIGNMENT-WORD = 24

abbrev pub ALIGNMENT-LONG : ℕ
ALIGNMENT-LONG = 25

abbrev pub BIT-MASK : ℕ
BIT-MASK = 26

abbrev pub READ-ONLY : ℕ
READ-ONLY = 27

abbrev pub DEFAULT-VALUE : ℕ
DEFAULT-VALUE = 28

abbrev pub FORMAT : ℕ
FORMAT = 37

abbrev pub DISPLAY-IDENTIFIER : ℕ
DISPLAY-IDENTIFIER = 38

abbrev pub PHYS-UNIT : ℕ
PHYS-UNIT = 39

abbrev pub ASAP2-VERSION : ℕ
ASAP2-VERSION = 40

abbrev pub A2ML-VERSION : ℕ
A2ML-VERSION = 41

-- choices
abbrev pub UBYTE : ℕ
UBYTE = 1

abbrev pub SLONG : ℕ
SLONG = 6

abbrev pub MSB-FIRST : ℕ
MSB-FIRST = 8

abbrev pub MSB-LAST : ℕ
MSB-LAST = 9

abbrev pub ROW-DIR : ℕ
ROW-DIR = 10

abbrev pub COLUMN-DIR : ℕ
COLUMN-DIR = 11

abbrev pub INDEX-INCR : ℕ
INDEX-INCR = 12

abbrev pub INDEX-DECR : ℕ
INDEX-DECR = 13

abbrev pub DIRECT : ℕ
DIRECT = 14

abbrev pub VALUE : ℕ
VALUE = 15

abbrev pub VAL-BLK : ℕ
VAL-BLK = 16

abbrev pub CURVE : ℕ
CURVE = 17

abbrev pub MAP : ℕ
MAP = 18

abbrev pub IDENTICAL : ℕ
IDENTICAL = 19

abbrev pub LINEAR : ℕ
LINEAR = 20

abbrev pub RAT-FUNC : ℕ
RAT-FUNC = 21

abbrev pub TAB-VERB : ℕ
TAB-VERB = 22

abbrev pub STD-AXIS : ℕ
STD-AXIS = 23

abbrev pub COM-AXIS : ℕ
COM-AXIS = 24
