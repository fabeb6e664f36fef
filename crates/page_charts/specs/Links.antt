-- Links to the pictures of buffers: a link is written only if the picture or the section that it names is on the page.
use Rattle.std.specs.Prelude.{ℕ, Bool, if◌then◌else◌, List, [], ◌++◌, codes, decimal, Option, Some, None}
use Rattle.std.specs.List.{list_any}
use Rattle.events.specs.declared.rule_event.BufferKind.{BufferKind}
use Rattle.events.specs.declared.rule_event.TracePoint.{TracePoint}
use Rattle.events.specs.BufferKinds.{word_of}
use Rattle.page_charts.specs.PictureTexts.{PictureTexts}
use Rattle.page_charts.specs.TracePictures.{is_of}

-- whether there is a picture of a buffer
abbrev pub has_picture : PictureTexts → ℕ → BufferKind → Bool
has_picture s pid kind = list_any (is_of pid kind) s.firsts

-- the link to it, by the id of its title
unfoldable pub link_text : ℕ → List ℕ → List ℕ
link_text pid word = codes ",&#160;<a href=#trace-" ++ (decimal pid ++ (codes "-" ++ (word ++ codes ">picture</a>")))

abbrev pub link_if : PictureTexts → ℕ → BufferKind → List ℕ
link_if s pid kind = if has_picture s pid kind then link_text pid (word_of kind) else []

-- the link to all pictures: the section is on the page if there is a point
unfoldable pub section_link_if : Option TracePoint → List ℕ
section_link_if None = []
section_link_if (Some last) = codes "<a href=#traces>Greatest excesses</a>"

abbrev pub section_link : PictureTexts → List ℕ
section_link s = section_link_if s.last
