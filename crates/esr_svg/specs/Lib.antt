-- The definition of an SVG element.

pub mod Svg
