mod serving
mod writing
