-- What stands in a buffer after something was written to it.
unfoldable pub use Rattle.pen.specs.Written.{wrote}
pub use Rattle.pen.specs.Written.{Wrote}
